use Rattle.std.proofs.Common.{◌≡◌, ◌++◌, ◌-◌}
use Rattle.bit_blast.specs.Circuits.{literal_bits}
use Rattle.bit_blast.proofs.rows.literal_row.Given as goal

abbrev pub invariant-loop-place : goal.invariant-loop-place
invariant-loop-place l = l.bits.items ++ literal_bits (l.width - l._place) l.rest ≡ literal_bits l.width l.value
