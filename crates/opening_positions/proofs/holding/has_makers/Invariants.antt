use Rattle.std.proofs.Common.{take}
use Rattle.opening_positions.specs.Holding.{AreHeld}
use Rattle.opening_positions.proofs.holding.has_makers.Given as goal

abbrev pub invariant-literals : goal.invariant-literals
invariant-literals l = AreHeld l.makers l.held (take l.literal-index l.literals)
