use Rattle.std.proofs.lemmas.List.{take_all}
use Rattle.diary_checker.proofs.Keys.{key_none, key_more}
use Rattle.diary_checker.proofs.filing.key_of.Goals as goal

pub loop-l-init : goal.loop-l-init
loop-l-init c = key_none c.args.watches.now c.args.clause.now

pub loop-l-preserved : goal.loop-l-preserved
loop-l-preserved c = key_more c.args.watches.now c.args.clause.now c.loop-l.l-index c.l-item.result c.shorter.result c.loop-l.key c.loop-l-test.true c.l-item.is c.loop-l.invariant c.shorter.ensures.one c.shorter.ensures.here c.shorter.ensures.before

pub returns : goal.returns
returns c = rw (take_all c.loop-l.l-index c.args.clause.now c.loop-l-test.false) at c.loop-l.invariant
