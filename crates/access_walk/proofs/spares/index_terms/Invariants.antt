use Rattle.access_walk.proofs.Taken.{AreIndexTermsTo}
use Rattle.access_walk.proofs.spares.index_terms.Given as goal

abbrev pub invariant-loop-term : goal.invariant-loop-term
invariant-loop-term l = AreIndexTermsTo l.terms.nodes l.bits l.reached l.term-index l.found.items
