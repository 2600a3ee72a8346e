use Rattle.std.proofs.Common.{◌≤◌, ◌^◌, arith, ap, sym, ◌∙◌}
use Rattle.std.specs.Prelude.{◌==◌}
use Rattle.std.proofs.Math.Pow.{pow_mono}
use Rattle.proof_checker.proofs.Valued.{number_more, binary_none}
use Rattle.proof_checker.proofs.written.number.Goals as goal
use Rattle.proof_checker.proofs.written.number.Goals.{then-digit, else-digit}

pub loop-digit-init : goal.loop-digit-init
loop-digit-init c = (omega arith, binary_none 0)

pub overflow_mul-number : goal.overflow_mul-number
overflow_mul-number c =
    let place : c.loop-digit.digit-index ≤ 127 = omega arith in
    let bound : 2 ^ c.loop-digit.digit-index ≤ 2 ^ 127 = pow_mono place in
    omega arith

pub overflow_add-number : goal.overflow_add-number
overflow_add-number c =
    let place : c.loop-digit.digit-index ≤ 127 = omega arith in
    let bound : 2 ^ c.loop-digit.digit-index ≤ 2 ^ 127 = pow_mono place in
    elim c.if-digit.branch [
      | then-digit w ↦ omega (arith, w.number-is, bound)
      | else-digit w ↦ omega (arith, w.number-is, bound)
    ]

pub loop-digit-preserved : goal.loop-digit-preserved
loop-digit-preserved c =
    let held = c.loop-digit.invariant in
    elim c.if-digit.branch [
      | then-digit w ↦ number_more c.args.digits.now c.loop-digit.digit-index c.loop-digit.number c.if-digit.number c.loop-digit-test.true (omega (arith, w.number-is)) (ap (λ k. k == 1) w.number-is ∙ sym w.if-digit.true) held.0 held.1
      | else-digit w ↦ number_more c.args.digits.now c.loop-digit.digit-index c.loop-digit.number c.if-digit.number c.loop-digit-test.true (omega (arith, w.number-is)) (ap (λ k. k == 1) w.number-is ∙ sym w.if-digit.false) held.0 held.1
    ]
