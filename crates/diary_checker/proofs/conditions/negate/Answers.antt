use Rattle.diary_checker.proofs.Sets.{opposite_step}
use Rattle.diary_checker.proofs.conditions.negate.Goals as goal

pub loop-l-preserved : goal.loop-l-preserved
loop-l-preserved c =
    let here = rw c.negated.ensures at c.in_ok-set.ensures.here in
    let others = rw c.negated.ensures at c.set.ensures.others in
    opposite_step c.loop-l.trues c.set.new.self c.args.clause.now c.loop-l.l-index c.l-item.result c.loop-l-test.true c.l-item.is c.loop-l.invariant here others
