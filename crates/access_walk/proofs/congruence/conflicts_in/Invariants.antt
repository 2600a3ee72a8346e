use Rattle.std.specs.Prelude.{Contains}
use Rattle.bit_blast.specs.Assigned.{assigned}
use Rattle.access_walk.proofs.Calling.{AreConflictsTo}
use Rattle.access_walk.proofs.congruence.conflicts_in.Given as goal

abbrev pub invariant-loop-place : goal.invariant-loop-place
invariant-loop-place l = AreConflictsTo l.terms.nodes l.bits (assigned l.assignment) (Contains l.reached) l.keys l.calls l.place l.conflicts.items
