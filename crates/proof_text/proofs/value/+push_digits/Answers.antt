use Rattle.std.proofs.Common.{◌≡◌, ◌^◌, ◌/◌, ◌%◌, ◌-◌, refl, arith, append-nil, eqb}
use Rattle.std.proofs.lemmas.Result.{on_ok_weaker, on_err_weaker}
use Rattle.proof_text.specs.Lines.{digit_of}
use Rattle.proof_text.proofs.Appending.{no_digits, digits_more, digit_is_one, digit_is_zero, kept_front}
use Rattle.proof_text.proofs.value.+push_digits.Goals as goal
use Rattle.proof_text.proofs.value.+push_digits.Goals.{then-number-rest-eq1, else-number-rest-eq1}

pub returns-then-width-eq0-clause-ok : goal.returns-then-width-eq0-clause-ok
returns-then-width-eq0-clause-ok t c = rw (no_digits c.args.width c.args.number c.if-width-eq0.true, append-nil) refl

pub returns-clause-ok : goal.returns-clause-ok
returns-clause-ok t c =
    let digit : c.if-number-rest-eq1.push ≡ digit_of (eqb ((c.args.number / 2 ^ (c.args.width - 1)) % 2) 1) =
    elim c.if-number-rest-eq1.branch [
      | then-number-rest-eq1 w ↦ rw w.push-is (digit_is_one _ w.if-number-rest-eq1.true)
      | else-number-rest-eq1 w ↦ rw w.push-is (digit_is_zero _ w.if-number-rest-eq1.false)
    ] in
    on_ok_weaker c.push_digits.result (digits_more c.args.out.now c.push.new.self c.push_digits.new.out c.args.width c.args.number c.if-number-rest-eq1.push (omega arith) digit c.in_ok-push.ensures.ok) c.push_digits.ensures.ok

pub returns-clause-err : goal.returns-clause-err
returns-clause-err t c = on_err_weaker c.push_digits.result (kept_front _ _ _ _ c.in_ok-push.ensures.ok) c.push_digits.ensures.err
