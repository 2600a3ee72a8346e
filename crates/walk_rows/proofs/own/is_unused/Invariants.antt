use Rattle.std.proofs.Common.{◌≡◌, ℕ, ◌<◌, Some}
use Rattle.smt_terms.specs.Nodes.{node_at}
use Rattle.smt_terms.specs.Terms.{declaration_of}
use Rattle.walk_rows.proofs.own.is_unused.Given as goal

abbrev pub invariant-loop-term : goal.invariant-loop-term
invariant-loop-term l = (t : ℕ) → t < l.term → declaration_of (node_at l.terms.nodes t).op ≡ Some l.declaration → ⊥
