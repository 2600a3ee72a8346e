use Rattle.std.proofs.Common.{ℕ, ◌<◌}
use Rattle.smt_terms.specs.Nodes.{node_at}
use Rattle.smt_eval.specs.Evaluated.{IsSuited}
use Rattle.walk_rows.proofs.fitting.are_suited.Given as goal

abbrev pub invariant-loop-term : goal.invariant-loop-term
invariant-loop-term l = (t : ℕ) → t < l.term → IsSuited (node_at l.terms.nodes t).op l.interp
