use Rattle.std.proofs.Common.{List, ◌++◌, map, refl, ap, ◌∙◌}
use Rattle.std.specs.List.{flat_map}
use Rattle.smt_values.specs.declared.table.Row.{Row}
use Rattle.proof_text.specs.Lines.{spaced, scalar_text}
use Rattle.proof_text.specs.Records.{row_scalars}
use Rattle.proof_text.proofs.Appending.{scalars_append, text_more}
use Rattle.proof_text.proofs.value.push_rows.Goals as goal

pub loop-row-preserved : goal.loop-row-preserved
loop-row-preserved c =
    text_more (λ (xs : List Row). spaced (map scalar_text (flat_map row_scalars xs))) (λ (x : Row). spaced (map scalar_text (row_scalars x))) refl
    (λ y ys. scalars_append (row_scalars y) (flat_map row_scalars ys)) c.args.rows.now c.loop-row.row-index c.row-item.result _ _ _ c.loop-row-test.true c.loop-row.invariant
    (c.in_ok-push_row.ensures.ok ∙ ap (λ (x : Row). c.loop-row.out ++ spaced (map scalar_text (row_scalars x))) c.row-item.is)
