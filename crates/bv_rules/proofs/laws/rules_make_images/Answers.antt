use Rattle.bv_rules.proofs.Keeping.{makes_image}
use Rattle.bv_rules.proofs.laws.rules_make_images.Goals as goal

pub returns : goal.returns
returns c = makes_image
