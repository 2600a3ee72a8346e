use Rattle.std.proofs.Common.{◌≡◌, ◌++◌, ◌-◌}
use Rattle.bit_blast.specs.Circuits.{repeated}
use Rattle.bit_blast.proofs.rows.repeated.Given as goal

abbrev pub invariant-loop-copy : goal.invariant-loop-copy
invariant-loop-copy l = l.bits.items ++ repeated (l.copies - l._copy) l.a ≡ repeated l.copies l.a
