use Rattle.std.proofs.Common.{◌≡◌, ◌∙◌, sym, true, false}
use Rattle.std.specs.Prelude.{slice_get, is_some}
use Rattle.smt_values.specs.Tables.{row_matching, RowsSplit}
use Rattle.smt_values.proofs.Rows.{row_set, row_insert}
use Rattle.smt_values.proofs.table.enter.Goals as goal

pub returns-then-held-clause-ok : goal.returns-then-held-clause-ok
returns-then-held-clause-ok c =
    let s : RowsSplit c.args.rows.now.items c.args.row.args c.place_of-place.result = rw (c.as_slice.ensures.value, c.as_slice-2.ensures) at c.place_of-place.ensures.split in
    let h : is_some (row_matching c.args.row.args (slice_get c.args.rows.now.items c.place_of-place.result)) ≡ true = rw (c.as_slice-3.ensures.value, c.as_slice-4.ensures) at (sym c.stands_at-held.ensures ∙ c.if-held.true) in
    row_set c.args.row c.args.rows.now.items c.place_of-place.result s h

pub returns-clause-ok : goal.returns-clause-ok
returns-clause-ok c =
    let s : RowsSplit c.args.rows.now.items c.args.row.args c.place_of-place.result = rw (c.as_slice.ensures.value, c.as_slice-2.ensures) at c.place_of-place.ensures.split in
    let h : is_some (row_matching c.args.row.args (slice_get c.args.rows.now.items c.place_of-place.result)) ≡ false = rw (c.as_slice-3.ensures.value, c.as_slice-4.ensures) at (sym c.stands_at-held.ensures ∙ c.if-held.false) in
    c.in_ok-insert.ensures.items ∙ row_insert c.args.row c.args.rows.now.items c.place_of-place.result s h
