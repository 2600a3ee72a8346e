use Rattle.std.proofs.Common.{◌+◌, ◌*◌, ◌<◌, ◌≤◌}
use Rattle.bit_blast.specs.Blocks.{EachShort}
use Rattle.bit_blast.proofs.tests.parameters.Given as goal

abbrev pub invariant-loop-place : goal.invariant-loop-place
invariant-loop-place l = record { short : EachShort l.bits; some : 1 < l.next; few : l.next ≤ 2 + 128 * l.place }
