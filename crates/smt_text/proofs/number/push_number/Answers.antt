use Rattle.std.proofs.Common.{◌+◌, ◌-◌, ◌%◌, ◌<◌, ◌^◌, ap, ◌∙◌, arith}
use Rattle.std.proofs.lemmas.Result.{on_ok_weaker}
use Rattle.std.proofs.lemmas.List.{length-set}
use Rattle.smt_text.proofs.Decimals.{fewer_digits, digit_before, first_before}
use Rattle.smt_text.proofs.number.push_number.Goals as goal

pub digits-preserved : goal.digits-preserved
digits-preserved c =
    let i = c.digits.invariant in
    let fewer = fewer_digits c.digits.rest c.digits.at i.room (omega arith) in
    record {
      size = length-set c.digits.digits (c.digits.at - 1) (48 + c.digits.rest % 10) ∙ i.size;
      above = (let more = fewer.0 in omega (arith, more));
      at = omega (arith, i.at);
      room = fewer.1;
      text = digit_before c.args.n c.digits.rest c.digits.digits c.digits.at (omega arith) (omega arith) i.above (omega (arith, i.size, i.at)) i.text;
    }

pub returns-clause-ok : goal.returns-clause-ok
returns-clause-ok c =
    let i = c.digits.invariant in
    on_ok_weaker c.push_slice.result (first_before c.args.n c.digits.rest c.digits.digits c.args.out.now c.push_slice.new.self c.digits.at 20 i.size (omega arith) i.above (omega (arith, i.size, i.at)) i.text) c.push_slice.ensures.ok
