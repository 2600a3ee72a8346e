use Rattle.std.proofs.Common.{sym, subst}
use Rattle.std.proofs.lemmas.List.{take_all}
use Rattle.cnf_base.proofs.Rows.{take_at}
use Rattle.diary_checker.specs.Tables.{AreEach}
use Rattle.diary_checker.proofs.literals.ClauseLiterals.collect.Goals as goal

pub loop-l-preserved : goal.loop-l-preserved
loop-l-preserved c =
    subst (AreEach c.add.new.self.table c.add.new.self.each.items) (sym (take_at c.args.clause.now c.loop-l.l-index c.l-item.result c.loop-l-test.true c.l-item.is))
    (c.in_ok-add.ensures _ c.loop-l.invariant)

pub returns : goal.returns
returns c = rw (take_all c.loop-l.l-index c.args.clause.now c.loop-l-test.false) at c.loop-l.invariant
