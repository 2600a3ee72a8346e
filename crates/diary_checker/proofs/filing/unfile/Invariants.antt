use Rattle.std.proofs.Common.{take}
use Rattle.std.specs.Prelude.{◌≢◌, Option, Contains}
use Rattle.cnf_base.specs.Literals.{Literal}
use Rattle.cnf_base.specs.declared.clause.ClauseId.{ClauseId}
use Rattle.diary_checker.specs.Tables.{filed_under}
use Rattle.diary_checker.specs.Uses.{MayBeUnder}
use Rattle.diary_checker.proofs.filing.unfile.Given as goal

abbrev pub invariant-loop-l : goal.invariant-loop-l
invariant-loop-l l = record {
  kept : (k : Option Literal) (i : ClauseId) → i.pos ≢ l.at → Contains (filed_under l.fn.watches k) i → Contains (filed_under l.watches k) i;
  gone : (k : Option Literal) (i : ClauseId) → MayBeUnder (take l.l-index l.clause) k → Contains (filed_under l.watches k) i → i.pos ≢ l.at;
}
