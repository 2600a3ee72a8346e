use Rattle.std.proofs.Common.{length}
use Rattle.proof_checker.proofs.WrittenTables.{IsTableSoFar}
use Rattle.proof_checker.proofs.written.table_of.Given as goal

abbrev pub invariant-rows : goal.invariant-rows
invariant-rows l = IsTableSoFar l.signature l.fn.default l.values l.left l.table

abbrev pub decreases-rows : goal.decreases-rows
decreases-rows l = length l.left
