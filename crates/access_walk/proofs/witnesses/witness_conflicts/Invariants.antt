use Rattle.std.specs.Prelude.{Contains}
use Rattle.bit_blast.specs.Assigned.{assigned}
use Rattle.access_walk.proofs.Joined.{AreConflictsTo}
use Rattle.access_walk.proofs.witnesses.witness_conflicts.Given as goal

abbrev pub invariant-loop-watched : goal.invariant-loop-watched
invariant-loop-watched l = AreConflictsTo l.terms.nodes l.bits (assigned l.assignment) (Contains l.reached) l.watches l.watched-index l.conflicts.items
