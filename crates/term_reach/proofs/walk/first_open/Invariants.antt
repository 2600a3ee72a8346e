use Rattle.std.proofs.Common.{◌-◌, length}
use Rattle.term_reach.specs.Walks.{AreDone}
use Rattle.term_reach.proofs.walk.first_open.Given as goal

abbrev pub invariant-places : goal.invariant-places
invariant-places g l = AreDone (g.N.Next.next_of l.next l.terms.nodes) l.reached l.frame.term l.place

abbrev pub decreases-places : goal.decreases-places
decreases-places g l = length (g.N.Next.next_of l.next l.terms.nodes l.frame.term) - l.place
