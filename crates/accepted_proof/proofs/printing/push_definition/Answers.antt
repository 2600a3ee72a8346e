use Rattle.std.proofs.Common.{[], ◌∷◌, codes}
use Rattle.std.proofs.lemmas.Result.{on_ok_weaker}
use Rattle.smt_text.specs.Printing.{symbol_text}
use Rattle.accepted_proof.specs.Answers.{listed, parameter_text, sort_text, value_text}
use Rattle.accepted_proof.proofs.Pieces.{nine_parts}
use Rattle.proof_text.proofs.Appending.{kept_front, on_err}
use Rattle.accepted_proof.proofs.printing.push_definition.Goals as goal

pub returns-clause-ok : goal.returns-clause-ok
returns-clause-ok c =
    on_ok_weaker c.push_slice-4.result
    (nine_parts c.args.out.now _ _ _ _ _ _ _ c.push_body.new.out c.push_slice-4.new.self (codes "(define-fun ") (symbol_text c.args.name.now) (codes " (") (listed parameter_text c.args.signature.now.args) (codes ") ") (sort_text c.args.signature.now.value) (32 ∷ []) (value_text c.args.value.now) (codes ")") (10 ∷ [])
    c.in_ok-push_slice.ensures.ok c.in_ok-print_symbol.ensures.ok c.in_ok-push_slice-2.ensures.ok (rw c.as_slice.ensures at c.in_ok-push_parameters.ensures.ok) c.in_ok-push_slice-3.ensures.ok c.in_ok-push_sort.ensures.ok c.in_ok-push.ensures.ok c.in_ok-push_body.ensures.ok)
    c.push_slice-4.ensures.ok

pub returns-in_err-push_parameters-clause-err : goal.returns-in_err-push_parameters-clause-err
returns-in_err-push_parameters-clause-err c =
    on_err c.from_residual-in_err-push_parameters.result
    (kept_front _ _ _ _ c.in_ok-push_slice.ensures.ok
    (kept_front _ _ _ _ c.in_ok-print_symbol.ensures.ok
    (kept_front _ _ _ _ c.in_ok-push_slice-2.ensures.ok
    c.in_err-push_parameters.ensures.err)))

pub returns-in_err-push_sort-clause-err : goal.returns-in_err-push_sort-clause-err
returns-in_err-push_sort-clause-err c =
    on_err c.from_residual-in_err-push_sort.result
    (kept_front _ _ _ _ c.in_ok-push_slice.ensures.ok
    (kept_front _ _ _ _ c.in_ok-print_symbol.ensures.ok
    (kept_front _ _ _ _ c.in_ok-push_slice-2.ensures.ok
    (kept_front _ _ _ _ c.in_ok-push_parameters.ensures.ok
    (kept_front _ _ _ _ c.in_ok-push_slice-3.ensures.ok
    c.in_err-push_sort.ensures.err)))))

pub returns-in_err-push_body-clause-err : goal.returns-in_err-push_body-clause-err
returns-in_err-push_body-clause-err c =
    on_err c.from_residual-in_err-push_body.result
    (kept_front _ _ _ _ c.in_ok-push_slice.ensures.ok
    (kept_front _ _ _ _ c.in_ok-print_symbol.ensures.ok
    (kept_front _ _ _ _ c.in_ok-push_slice-2.ensures.ok
    (kept_front _ _ _ _ c.in_ok-push_parameters.ensures.ok
    (kept_front _ _ _ _ c.in_ok-push_slice-3.ensures.ok
    (kept_front _ _ _ _ c.in_ok-push_sort.ensures.ok
    (kept_front _ _ _ _ c.in_ok-push.ensures.ok
    c.in_err-push_body.ensures.err)))))))
