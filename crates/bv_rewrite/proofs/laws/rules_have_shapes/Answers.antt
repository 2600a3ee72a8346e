use Rattle.bv_rewrite.proofs.Fitting.{shaped}
use Rattle.bv_rewrite.proofs.laws.rules_have_shapes.Goals as goal

pub returns : goal.returns
returns c = shaped
