use Rattle.std.proofs.Common.{arith, ◌≤◌, ◌^◌, lit≤}
use Rattle.std.proofs.Math.Nat.{pow-le-pow_right}
use Rattle.smt_build.proofs.literal.hexadecimal_number.Goals as goal

pub overflow_mul-value : goal.overflow_mul-value
overflow_mul-value c =
    let place : c.loop-digit.digit-index ≤ 31 = omega arith in
    let bound : 16 ^ c.loop-digit.digit-index ≤ 16 ^ 31 = pow-le-pow_right (lit≤ tt) place in
    omega arith

pub overflow_add-value : goal.overflow_add-value
overflow_add-value c =
    let place : c.loop-digit.digit-index ≤ 31 = omega arith in
    let bound : 16 ^ c.loop-digit.digit-index ≤ 16 ^ 31 = pow-le-pow_right (lit≤ tt) place in
    let digit = c.hexadecimal_value.ensures.below in
    grind (arith, c.from.ensures, bound, digit)
