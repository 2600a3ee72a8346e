use Rattle.std.proofs.Common.{◌≤◌, length}
use Rattle.cdcl_learn.proofs.minimizer.Minimizer.keep_levels.Given as goal

abbrev pub invariant-marked : goal.invariant-marked
invariant-marked l = l.i ≤ length l.marks

abbrev pub decreases-marked : goal.decreases-marked
decreases-marked l = l.i
