use Rattle.std.proofs.lemmas.List.{take_all}
use Rattle.diary_checker.proofs.Sets.{set_step}
use Rattle.diary_checker.proofs.conditions.insert.Goals as goal

pub loop-l-preserved : goal.loop-l-preserved
loop-l-preserved c =
    set_step c.loop-l.table c.set.new.self c.args.literals.now c.loop-l.l-index c.l-item.result c.loop-l-test.true c.l-item.is c.loop-l.invariant c.in_ok-set.ensures.here c.set.ensures.others

pub returns : goal.returns
returns c = rw (take_all c.loop-l.l-index c.args.literals.now c.loop-l-test.false) at c.loop-l.invariant
