use Rattle.std.specs.Prelude.{Contains}
use Rattle.access_walk.proofs.Joined.{AreWatchesTo}
use Rattle.access_walk.proofs.witnesses.watches_of.Given as goal

abbrev pub invariant-loop-term : goal.invariant-loop-term
invariant-loop-term l = AreWatchesTo l.terms.nodes l.bits (Contains l.reached) l.reached l.term-index l.watches.items
