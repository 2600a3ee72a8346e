use Rattle.std.proofs.Common.{◌≡◌, map, take}
use Rattle.smt_values.specs.Readings.{row_read}
use Rattle.smt_values.proofs.table.FunTable.read.Given as goal

abbrev pub invariant-loop-row : goal.invariant-loop-row
invariant-loop-row l = l.rows.items ≡ map (row_read l.sort) (take l.row-index l.row-items)
