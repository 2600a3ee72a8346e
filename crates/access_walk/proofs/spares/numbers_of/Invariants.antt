use Rattle.std.specs.Prelude.{Contains}
use Rattle.bit_blast.specs.Assigned.{assigned}
use Rattle.access_tables.specs.Held.{assigned_value}
use Rattle.access_walk.proofs.Taken.{AreTakenTo}
use Rattle.access_walk.proofs.spares.numbers_of.Given as goal

abbrev pub invariant-loop-index : goal.invariant-loop-index
invariant-loop-index l = AreTakenTo l.terms.nodes l.bits (Contains l.reached) (assigned_value l.terms.nodes l.bits (assigned l.assignment)) l.indexes.terms.items l.width l.index-index l.numbers.items
