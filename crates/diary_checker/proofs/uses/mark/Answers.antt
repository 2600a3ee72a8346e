use Rattle.std.proofs.lemmas.List.{take_all}
use Rattle.diary_checker.proofs.Using.{given_step, given_none}
use Rattle.diary_checker.proofs.uses.mark.Goals as goal

pub loop-l-init : goal.loop-l-init
loop-l-init c = given_none c.args.table.now c.args.clause.now c.args.number

pub loop-l-preserved : goal.loop-l-preserved
loop-l-preserved c =
    given_step c.args.table.now c.loop-l.table c.set.new.self c.args.clause.now c.loop-l.l-index c.l-item.result c.args.number c.loop-l-test.true c.l-item.is c.loop-l.invariant c.in_ok-set.ensures.here c.set.ensures.others

pub returns : goal.returns
returns c = rw (take_all c.loop-l.l-index c.args.clause.now c.loop-l-test.false) at c.loop-l.invariant
