use Rattle.std.proofs.Common.{◌≡◌, ◌-◌}
use Rattle.bv_rules.specs.Arguments.{reaches}
use Rattle.bv_rules.proofs.images.reaches.Given as goal

abbrev pub invariant-loop-step : goal.invariant-loop-step
invariant-loop-step g l = reaches (g.I.Images.image_of l.images) (l.steps - l._step) l.at l.to ≡ reaches (g.I.Images.image_of l.images) l.steps l.from l.to
