use Rattle.std.proofs.Common.{◌≡◌, ◌<◌, ◌^◌, take}
use Rattle.smt_build.specs.Literals.{bit_value, value_in}
use Rattle.smt_build.proofs.literal.binary_number.Given as goal

abbrev pub invariant-loop-digit : goal.invariant-loop-digit
invariant-loop-digit l = (l.value ≡ value_in 2 bit_value (take l.digit-index l.digits)) × (l.value < 2 ^ l.digit-index)
