use Rattle.std.proofs.Common.{◌∙◌}
use Rattle.bv_rules.proofs.Reaching.{went}
use Rattle.bv_rules.proofs.images.reaches.Goals as goal

pub loop-step-preserved : goal.loop-step-preserved
loop-step-preserved g c = went (g.I.Images.image_of c.args.images.now) c.args.steps c.loop-step._step c.loop-step.at c.args.to c.in-Some.next c.loop-step-test.true c.if-at-to.false c.in-Some.ensures ∙ c.loop-step.invariant
