use Rattle.bv_rewrite.proofs.Lighter.{lighter_shape}
use Rattle.bv_rewrite.proofs.laws.rules_lower_weights.Goals as goal

pub returns : goal.returns
returns c = lighter_shape
