use Rattle.std.proofs.Common.{◌∙◌}
use Rattle.bv_rewrite.proofs.Following.{stepped}
use Rattle.bv_rewrite.proofs.simplifying.end_of.Goals as goal

pub loop-step-preserved : goal.loop-step-preserved
loop-step-preserved g c = stepped (g.I.Images.image_of c.args.images.now) c.args.steps c.loop-step._step c.loop-step.at c.in-Some.next c.loop-step-test.true c.in-Some.ensures ∙ c.loop-step.invariant
