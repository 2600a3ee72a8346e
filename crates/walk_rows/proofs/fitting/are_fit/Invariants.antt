use Rattle.std.proofs.Common.{ℕ, ◌<◌}
use Rattle.walk_rows.specs.Fitting.{IsFit}
use Rattle.walk_rows.proofs.fitting.are_fit.Given as goal

abbrev pub invariant-loop-term : goal.invariant-loop-term
invariant-loop-term l = (t : ℕ) → t < l.term → IsFit l.terms.nodes l.bits t
