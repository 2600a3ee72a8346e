use Rattle.std.proofs.Common.{arith, ◌≤◌, ◌^◌}
use Rattle.std.proofs.Math.Pow.{pow_mono}
use Rattle.smt_build.proofs.literal.binary_number.Goals as goal

pub overflow_mul-value : goal.overflow_mul-value
overflow_mul-value c =
    let place : c.loop-digit.digit-index ≤ 127 = omega arith in
    let bound : 2 ^ c.loop-digit.digit-index ≤ 2 ^ 127 = pow_mono place in
    omega arith

pub overflow_add-value : goal.overflow_add-value
overflow_add-value c =
    let place : c.loop-digit.digit-index ≤ 127 = omega arith in
    let bound : 2 ^ c.loop-digit.digit-index ≤ 2 ^ 127 = pow_mono place in
    grind (arith, c.from.ensures, bound)
