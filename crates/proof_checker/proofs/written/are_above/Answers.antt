use Rattle.std.proofs.Common.{◌≢◌, ◌-◌, length, get_or, sym, ap, ◌∙◌, arith}
use Rattle.std.proofs.lemmas.Bool.{eqb-false}
use Rattle.std.specs.Ordering.{is_lt}
use Rattle.smt_values.specs.Tables.{args_cmp}
use Rattle.proof_checker.proofs.WrittenTables.{above_last_row}
use Rattle.proof_checker.proofs.written.are_above.Goals as goal

pub returns : goal.returns
returns c =
    let rs = c.args.table.now.rows in
    let d = c.index-rows-rows.result in
    let some : length c.rows-rows.result.now ≢ 0 = eqb-false (length c.rows-rows.result.now) 0 (sym c.is_empty.ensures ∙ c.if-is_empty.false) in
    above_last_row rs (length rs - 1) d _ c.args.args.now c.is_lt.result c.rows-rows.ensures.rising (omega (arith, some, ap length c.rows-rows.ensures.rows))
    (ap (λ xs. get_or xs (length xs - 1) d) c.rows-rows.ensures.rows)
    (sym (c.is_lt.ensures ∙ ap is_lt (c.compare.ensures ∙ ap (λ a. args_cmp a c.args.args.now) c.as_slice.ensures)))
