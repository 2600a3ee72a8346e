use Rattle.std.proofs.Common.{length}
use Rattle.smt_values.proofs.order.+compare.Given as goal

abbrev pub decreases-compare : goal.decreases-compare
decreases-compare l = length l.a.now
