use Rattle.std.proofs.Common.{◌≡◌, ◌<◌, length, get_or, subst}
use Rattle.written_models.proofs.Rows.{rows_next}
use Rattle.written_models.proofs.tables.table_at.Goals as goal

pub loop-row-preserved : goal.loop-row-preserved
loop-row-preserved c =
    let k = c.loop-row.row-index in
    let r = c.row-item.result in
    let items : c.rows-row-items.result.now ≡ c.args.table.now.rows = c.rows-row-items.ensures.rows in
    rows_next c.args.signature.now c.args.table.now k c.loop-row.read r c.rows-row-items.ensures.rising (subst (λ l. k < length l) items c.loop-row-test.true) (subst (λ l. r ≡ get_or l k r) items c.row-item.is)
    c.loop-row.invariant c.enter.new.read c.in_ok-enter.ensures
