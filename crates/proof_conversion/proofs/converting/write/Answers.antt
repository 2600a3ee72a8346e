use Rattle.std.proofs.Common.{length, refl}
use Rattle.proof_conversion.proofs.Written.{written_as}
use Rattle.proof_conversion.proofs.converting.write.Goals as goal

pub returns : goal.returns
returns c = λ k is.
    written_as c.args.numbers c.args.scan.now k c.in_ok-due.due.items c.as_slice.result.now c.as_slice-2.result.now c.as_slice-texts.result.now c.as_slice-3.result.now c.new-proof.result c.push_header.new.out c.push_parts.new.out (length c.as_slice-texts.result.now)
    is c.as_slice.ensures.value c.as_slice-2.ensures.value c.as_slice-texts.ensures.value c.as_slice-3.ensures.value c.new-proof.ensures
    c.in_ok-due.ensures c.in_ok-push_header.ensures c.in_ok-push_parts.ensures.text c.in_ok-push_parts.ensures.lines refl
