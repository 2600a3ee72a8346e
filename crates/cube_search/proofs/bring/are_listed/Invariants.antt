use Rattle.std.proofs.Common.{take}
use Rattle.cube_search.specs.Holding.{AreAmong}
use Rattle.cube_search.proofs.bring.are_listed.Given as goal

abbrev pub invariant-literals : goal.invariant-literals
invariant-literals l = AreAmong l.engine.agenda.list (take l.literal-index l.literals)
