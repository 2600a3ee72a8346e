use Rattle.std.proofs.Common.{arith}
use Rattle.script_state.proofs.Lists.{seen_none, seen_more, seen_early, seen_all}
use Rattle.script_state.proofs.whole.closes.Goals as goal

pub loop-token-init : goal.loop-token-init
loop-token-init c = seen_none _

pub loop-token-preserved : goal.loop-token-preserved
loop-token-preserved c = seen_more _ _ _ _ _ c.loop-token-test.true c.loop-token.invariant (omega arith) (c.open_after-depth.ensures _)

pub returns-then-depth-eq0 : goal.returns-then-depth-eq0
returns-then-depth-eq0 c = seen_early _ _ _ c.loop-token-test.true c.loop-token.invariant c.if-depth-eq0.true

pub returns : goal.returns
returns c = seen_all _ _ _ c.loop-token-test.false c.loop-token.invariant
