use Rattle.std.proofs.Common.{◌≡◌, ◌<◌, List, Option, Some}
use Rattle.std.specs.Prelude.{Contains}
use Rattle.cnf_base.specs.Literals.{Literal}
use Rattle.cnf_base.specs.declared.clause.ClauseId.{ClauseId}
use Rattle.proof_log.specs.Logs.{clause_at}
use Rattle.diary_checker.specs.Tables.{filed_under, IsFiled}
use Rattle.diary_checker.proofs.filing.file.Given as goal

abbrev pub invariant-loop-part : goal.invariant-loop-part
invariant-loop-part l = record {
  kept : (k : Option Literal) (i : ClauseId) → Contains (filed_under l.fn.watches k) i → Contains (filed_under l.watches k) i;
  filed : (id : ClauseId) (c : List Literal) → id.pos ≡ l.at → id.part < l.part → clause_at l.log.clauses id ≡ Some c → IsFiled l.watches id c;
}
