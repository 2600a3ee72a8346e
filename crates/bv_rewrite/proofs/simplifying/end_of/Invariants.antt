use Rattle.std.proofs.Common.{◌≡◌, ◌-◌}
use Rattle.bv_rewrite.specs.Simplifying.{end_in}
use Rattle.bv_rewrite.proofs.simplifying.end_of.Given as goal

abbrev pub invariant-loop-step : goal.invariant-loop-step
invariant-loop-step g l = end_in (g.I.Images.image_of l.images) (l.steps - l._step) l.at ≡ end_in (g.I.Images.image_of l.images) l.steps l.term
