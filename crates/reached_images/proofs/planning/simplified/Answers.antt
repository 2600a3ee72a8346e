use Rattle.std.proofs.Common.{sym, ◌∙◌}
use Rattle.reached_images.specs.Plans.{known_image}
use Rattle.reached_images.proofs.planning.simplified.Goals as goal

pub simplify-requires-clause-images : goal.simplify-requires-clause-images
simplify-requires-clause-images c t u e =
    c.requires.images t u (sym (λ i. known_image (c.new-images.ensures.bits i) (c.new-images.ensures.plan i) t) ∙ e)
