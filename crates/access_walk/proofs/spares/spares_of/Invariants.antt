use Rattle.std.specs.Prelude.{Contains}
use Rattle.bit_blast.specs.Assigned.{assigned}
use Rattle.access_tables.specs.Held.{assigned_value}
use Rattle.access_walk.proofs.Taken.{AreSparesTo}
use Rattle.access_walk.proofs.spares.spares_of.Given as goal

abbrev pub invariant-loop-width : goal.invariant-loop-width
invariant-loop-width l = AreSparesTo l.terms.nodes l.bits (Contains l.reached) (assigned_value l.terms.nodes l.bits (assigned l.assignment)) l.indexes.widths.items l.width-index l.spares.items
