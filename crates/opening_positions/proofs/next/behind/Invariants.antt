use Rattle.std.proofs.Common.{take}
use Rattle.std.specs.Prelude.{Contains}
use Rattle.opening_positions.specs.Reading.{IsBehind}
use Rattle.opening_positions.proofs.next.behind.Given as goal

abbrev pub invariant-literals : goal.invariant-literals
invariant-literals l = IsBehind (Contains (take l.literal-index l.literals)) l.next l.found
