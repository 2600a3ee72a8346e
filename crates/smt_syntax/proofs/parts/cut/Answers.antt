use Rattle.smt_syntax.proofs.Cuts.{cutting_more, cutting_all}
use Rattle.smt_syntax.proofs.parts.cut.Goals as goal

pub loop-i-preserved : goal.loop-i-preserved
loop-i-preserved c = cutting_more _ _ _ _ _ _ _ _ _ c.loop-i-test.true c.loop-i.invariant (c.cut_step-step.ensures _) c.in_ok-push_found.ensures

pub returns : goal.returns
returns c = cutting_all _ _ _ _ _ _ c.loop-i-test.false c.loop-i.invariant
