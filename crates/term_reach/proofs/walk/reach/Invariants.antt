use Rattle.std.proofs.Common.{◌≡◌, ◌<◌, ℕ, [], Some, length}
use Rattle.std.specs.Prelude.{Contains, slice_get}
use Rattle.term_reach.specs.Walks.{IsPart}
use Rattle.term_reach.proofs.walk.reach.Given as goal

abbrev pub invariant-roots : goal.invariant-roots
invariant-roots g l = record {
  path : l.path.items ≡ [];
  part : IsPart (length l.terms.nodes) (g.N.Next.next_of l.next l.terms.nodes) l.roots l.reached;
  done : (j t : ℕ) → j < l.root-index → slice_get l.roots j ≡ Some t → Contains l.reached t;
}
