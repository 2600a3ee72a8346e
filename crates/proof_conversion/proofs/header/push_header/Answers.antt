use Rattle.std.proofs.lemmas.Result.{on_ok_weaker}
use Rattle.proof_conversion.proofs.Headings.{header_written}
use Rattle.proof_conversion.proofs.header.push_header.Goals as goal

pub returns : goal.returns
returns c =
    on_ok_weaker c.push.result
    (header_written c.args.out.now _ _ _ _ c.push.new.self c.args.numbers c.in_ok-push_slice.ensures.ok c.in_ok-push_number.ensures.ok c.in_ok-push_slice-2.ensures.ok c.in_ok-push_number-2.ensures.ok)
    c.push.ensures.ok
