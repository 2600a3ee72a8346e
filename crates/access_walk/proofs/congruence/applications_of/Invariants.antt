use Rattle.std.specs.Prelude.{Contains}
use Rattle.access_walk.proofs.Calling.{AreApplicationsTo}
use Rattle.access_walk.proofs.congruence.applications_of.Given as goal

abbrev pub invariant-loop-term : goal.invariant-loop-term
invariant-loop-term l = AreApplicationsTo l.terms.nodes l.bits (Contains l.reached) l.reached l.term-index l.found.items
