use Rattle.smt_syntax.proofs.Judgings.{judged_more, judged_ends, judged_out}
use Rattle.smt_syntax.proofs.judge.is_shape.Goals as goal

pub returns-in-Some : goal.returns-in-Some
returns-in-Some c = judged_ends _ _ _ _ _ _ c.loop-token-test.true c.loop-token.invariant (rw c.in-Some.is at c.in_ok-answer.ensures)

pub loop-token-preserved : goal.loop-token-preserved
loop-token-preserved c = judged_more _ _ _ _ _ _ c.loop-token-test.true c.loop-token.invariant (rw c.in-None.is at c.in_ok-answer.ensures)

pub returns : goal.returns
returns c = judged_out _ _ _ _ c.loop-token-test.false c.loop-token.invariant
