use Rattle.std.specs.Prelude.{◌≢◌, Option, Contains}
use Rattle.cnf_base.specs.Literals.{Literal}
use Rattle.cnf_base.specs.declared.clause.ClauseId.{ClauseId}
use Rattle.diary_checker.specs.Tables.{filed_under}
use Rattle.diary_checker.proofs.filing.unfile_all.Given as goal

abbrev pub invariant-loop-part : goal.invariant-loop-part
invariant-loop-part l = (k : Option Literal) (i : ClauseId) → i.pos ≢ l.at → Contains (filed_under l.fn.watches k) i → Contains (filed_under l.watches k) i
