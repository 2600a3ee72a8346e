use Rattle.std.proofs.Common.{◌∙◌, sym, ap, subst, map, arith}
use Rattle.std.proofs.lemmas.List.{take_all}
use Rattle.smt_values.specs.Tables.{AreRowsRising}
use Rattle.smt_values.specs.Readings.{row_read}
use Rattle.smt_values.proofs.TableReading.{rows_read_rising}
use Rattle.smt_values.proofs.table.FunTable.read.Goals as goal

pub invariant_of-result : goal.invariant_of-result
invariant_of-result c =
    let whole = c.loop-row.invariant ∙ ap (map (row_read c.args.sort)) (take_all c.loop-row.row-index c.as_slice-row-items.result.now (omega arith)) ∙ ap (map (row_read c.args.sort)) c.as_slice-row-items.ensures.value in
    subst AreRowsRising (sym whole) (rows_read_rising c.args.sort c.self.inside.rows.items c.self.invariant)
