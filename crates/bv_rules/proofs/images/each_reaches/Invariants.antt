use Rattle.std.proofs.Common.{◌≡◌, drop}
use Rattle.std.specs.Cmp.Lexicographic.{pointwise}
use Rattle.bv_rules.specs.Arguments.{reaches}
use Rattle.bv_rules.proofs.images.each_reaches.Given as goal

abbrev pub invariant-loop-place : goal.invariant-loop-place
invariant-loop-place g l = pointwise (reaches (g.I.Images.image_of l.images) l.steps) (drop l.place l.from) (drop l.place l.to) ≡ pointwise (reaches (g.I.Images.image_of l.images) l.steps) l.from l.to
