use Rattle.std.proofs.Common.{take}
use Rattle.std.specs.Prelude.{Contains, Some}
use Rattle.cnf_base.specs.Literals.{Literal}
use Rattle.cnf_base.specs.declared.clause.ClauseId.{ClauseId}
use Rattle.proof_log.specs.Logs.{clause_at}
use Rattle.diary_checker.specs.Tables.{bit_in, filed_under}
use Rattle.diary_checker.specs.Uses.{Subsumes}
use Rattle.diary_checker.proofs.conditions.is_subsumed.Given as goal

abbrev pub invariant-loop-l : goal.invariant-loop-l
invariant-loop-l l = (k : Literal) → Contains (take l.l-index l.clause) k → (id : ClauseId) → Contains (filed_under l.watches (Some k)) id → ¬ (Subsumes (clause_at l.log.clauses) (bit_in l.held) l.own id)
