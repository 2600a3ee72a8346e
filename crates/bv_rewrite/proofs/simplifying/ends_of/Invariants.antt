use Rattle.std.proofs.Common.{◌≡◌, take, map}
use Rattle.bv_rewrite.specs.Simplifying.{end_in}
use Rattle.bv_rewrite.proofs.simplifying.ends_of.Given as goal

abbrev pub invariant-loop-place : goal.invariant-loop-place
invariant-loop-place g l = l.ends.items ≡ map (end_in (g.I.Images.image_of l.images) l.steps) (take l.place l.args)
