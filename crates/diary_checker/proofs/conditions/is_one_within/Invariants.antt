use Rattle.std.proofs.Common.{take}
use Rattle.std.specs.Prelude.{Contains}
use Rattle.cnf_base.specs.declared.clause.ClauseId.{ClauseId}
use Rattle.proof_log.specs.Logs.{clause_at}
use Rattle.diary_checker.specs.Tables.{bit_in}
use Rattle.diary_checker.specs.Uses.{Subsumes}
use Rattle.diary_checker.proofs.conditions.is_one_within.Given as goal

abbrev pub invariant-loop-id : goal.invariant-loop-id
invariant-loop-id l = (id : ClauseId) → Contains (take l.id-index l.ids) id → ¬ (Subsumes (clause_at l.log.clauses) (bit_in l.held) l.own id)
