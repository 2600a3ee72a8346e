use Rattle.std.proofs.Common.{◌≡◌, ◌<◌, ◌^◌, take}
use Rattle.smt_build.specs.Literals.{hexadecimal_value, value_in}
use Rattle.smt_build.proofs.literal.hexadecimal_number.Given as goal

abbrev pub invariant-loop-digit : goal.invariant-loop-digit
invariant-loop-digit l = (l.value ≡ value_in 16 hexadecimal_value (take l.digit-index l.digits)) × (l.value < 16 ^ l.digit-index)
