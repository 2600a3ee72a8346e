use Rattle.std.proofs.Common.{List, ◌++◌, refl, ap, ◌∙◌}
use Rattle.std.specs.List.{flat_map}
use Rattle.smt_values.specs.declared.table.Row.{Row}
use Rattle.proof_text.proofs.Appending.{text_more, kept_front, on_err}
use Rattle.accepted_proof.specs.Printed.{row_opening}
use Rattle.accepted_proof.proofs.printing.push_rows.Goals as goal

pub loop-row-preserved : goal.loop-row-preserved
loop-row-preserved c =
    text_more (λ (xs : List Row). flat_map row_opening xs) row_opening refl (λ _ _. refl)
    c.args.rows.now c.loop-row.row-index c.row-item.result _ _ _ c.loop-row-test.true c.loop-row.invariant
    (c.in_ok-push_row.ensures.ok ∙ ap (λ (r : Row). c.loop-row.out ++ row_opening r) c.row-item.is)

pub returns-in_err-push_row-clause-err : goal.returns-in_err-push_row-clause-err
returns-in_err-push_row-clause-err c =
    on_err c.from_residual.result (kept_front _ _ _ _ c.loop-row.invariant c.in_err-push_row.ensures.err)
