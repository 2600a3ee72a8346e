use Rattle.written_models.proofs.Rows.{AreReadTo}
use Rattle.written_models.proofs.tables.table_at.Given as goal

abbrev pub invariant-loop-row : goal.invariant-loop-row
invariant-loop-row l = AreReadTo l.signature l.table l.row-index l.read
