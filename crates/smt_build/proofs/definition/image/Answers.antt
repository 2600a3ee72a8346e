use Rattle.std.proofs.Common.{◌∙◌}
use Rattle.smt_build.proofs.Images.{placed_at, placed_none}
use Rattle.smt_build.proofs.definition.image.Goals as goal

pub returns-in-Some : goal.returns-in-Some
returns-in-Some c = c.number_at.ensures ∙ placed_at c.args.reached.now c.args.images.now c.in-Some.place c.args.term c.in-Some.ensures.once c.in-Some.ensures.place

pub returns-in-None : goal.returns-in-None
returns-in-None c = placed_none c.args.reached.now c.args.images.now c.args.term c.in-None.ensures.place
