use Rattle.std.proofs.Common.{[], ◌∷◌, ◌++◌, ap, ◌∙◌, codes}
use Rattle.std.proofs.lemmas.Result.{on_ok_weaker}
use Rattle.smt_terms.specs.declared.sort.Sort.TheVariants.{Array}
use Rattle.accepted_proof.specs.Answers.{sort_text, word_text}
use Rattle.accepted_proof.proofs.Pieces.{five_parts}
use Rattle.proof_text.proofs.Appending.{kept_front, on_err}
use Rattle.accepted_proof.proofs.printing.push_constant.Goals as goal

pub returns-clause-ok : goal.returns-clause-ok
returns-clause-ok c =
    on_ok_weaker c.push.result
    (five_parts c.args.out.now _ _ _ _ c.push.new.self (codes "((as const ") (sort_text (Array c.args.index c.args.element.width)) (codes ") ") (word_text c.args.element.width c.args.element.value) (41 ∷ [])
    c.in_ok-push_slice.ensures.ok (c.in_ok-push_sort.ensures.ok ∙ ap (λ w. c.push_slice.new.self ++ sort_text (Array c.args.index w)) c.width.ensures) c.in_ok-push_slice-2.ensures.ok c.in_ok-push_word.ensures.ok)
    c.push.ensures.ok

pub returns-in_err-push_word-clause-err : goal.returns-in_err-push_word-clause-err
returns-in_err-push_word-clause-err c =
    on_err c.from_residual-in_err-push_word.result
    (kept_front _ _ _ _ c.in_ok-push_slice.ensures.ok
    (kept_front _ _ _ _ c.in_ok-push_sort.ensures.ok
    (kept_front _ _ _ _ c.in_ok-push_slice-2.ensures.ok
    c.in_err-push_word.ensures.err)))
