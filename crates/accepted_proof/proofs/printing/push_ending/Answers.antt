use Rattle.proof_text.proofs.Appending.{kept_front, on_err}
use Rattle.accepted_proof.proofs.printing.push_ending.Goals as goal

pub returns-in_err-push_word-2-clause-err : goal.returns-in_err-push_word-2-clause-err
returns-in_err-push_word-2-clause-err c =
    on_err c.from_residual-in_err-push_word-2.result
    (kept_front _ _ _ _ c.in_ok-push.ensures.ok
    (kept_front _ _ _ _ c.in_ok-push_word.ensures.ok
    (kept_front _ _ _ _ c.in_ok-push-2.ensures.ok
    c.in_err-push_word-2.ensures.err)))
