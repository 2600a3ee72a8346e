use Rattle.std.proofs.lemmas.Result.{on_ok_weaker}
use Rattle.proof_text.proofs.Appending.{header_words}
use Rattle.proof_text.proofs.header.push_header.Goals as goal

pub returns-clause-ok : goal.returns-clause-ok
returns-clause-ok c =
    on_ok_weaker c.push.result
    (header_words c.args.format _ _ _ _ _ _ _ _ c.in_ok-push_slice.ensures.ok (rw c.format_word.ensures at c.in_ok-push_slice-2.ensures.ok) c.in_ok-push_with_number.ensures.ok c.in_ok-push_with_number-2.ensures.ok)
    c.push.ensures.ok
