use Rattle.std.proofs.Common.{ℕ, length}
use Rattle.std.specs.Prelude.{Contains}
use Rattle.term_reach.specs.Walks.{IsWalking, IsSeen, left}
use Rattle.term_reach.proofs.walk.descend.Given as goal

abbrev pub invariant-way : goal.invariant-way
invariant-way g l = record {
  walking : IsWalking (length l.terms.nodes) (g.N.Next.next_of l.next l.terms.nodes) l.roots l.path.items l.reached;
  root : IsSeen l.path.items l.reached l.root;
  kept : (t : ℕ) → Contains l.fn.reached t → IsSeen l.path.items l.reached t;
}

abbrev pub decreases-way : goal.decreases-way
decreases-way g l = left (length l.terms.nodes) l.path.items l.reached
