use Rattle.std.proofs.Common.{sym, subst}
use Rattle.std.specs.Prelude.{IfOk, Option}
use Rattle.proof_text.specs.declared.record.Record.{Record}
use Rattle.smt_session.specs.Tabled.{IsTableOf}
use Rattle.smt_session.proofs.last.table_if.Goals as goal

pub returns-in-Some : goal.returns-in-Some
returns-in-Some c = subst (λ (o : Option Record). IfOk c.table_of.result (λ m. IsTableOf o m)) (sym c.in-Some.is) c.table_of.ensures
