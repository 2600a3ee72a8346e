use Rattle.smt_syntax.proofs.Depths.{counted_more, counted_all}
use Rattle.smt_syntax.proofs.depth.most_open.Goals as goal

pub loop-token-preserved : goal.loop-token-preserved
loop-token-preserved c = counted_more _ _ _ _ _ _ _ c.loop-token-test.true c.loop-token.invariant (c.open_after-depth.ensures _) c.max-most.ensures

pub returns : goal.returns
returns c = counted_all _ _ _ _ c.loop-token-test.false c.loop-token.invariant
