use Rattle.std.proofs.Common.{ℕ, ◌<◌}
use Rattle.walk_rows.specs.Fitting.{IsGiven}
use Rattle.walk_rows.proofs.fitting.are_given.Given as goal

abbrev pub invariant-loop-term : goal.invariant-loop-term
invariant-loop-term l = (t : ℕ) → t < l.term → IsGiven l.terms.nodes l.bits t
