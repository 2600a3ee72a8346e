use Rattle.std.proofs.Common.{◌≡◌, take}
use Rattle.std.specs.Prelude.{map}
use Rattle.cnf_base.specs.Literals.{negated}
use Rattle.circ_plain.proofs.rows.complement.Given as goal

abbrev pub invariant-loop-bit : goal.invariant-loop-bit
invariant-loop-bit l = l.opposite.items ≡ map negated (take l.bit-index l.bits)
