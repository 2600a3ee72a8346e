use Rattle.std.proofs.Common.{take}
use Rattle.cdcl_core.specs.Search.{literals_of, clause_of}
use Rattle.cdcl_learn.specs.Units.{AreUnits}
use Rattle.cdcl_learn.proofs.units.units_against.Given as goal

abbrev pub invariant-literals : goal.invariant-literals
invariant-literals l = AreUnits (clause_of l.watches) (literals_of l.trail) l.end (take l.l-index l.clause) l.literal l.units.items
