use Rattle.bv_rewrite.proofs.Fitting.{made}
use Rattle.bv_rewrite.proofs.laws.shapes_are_made_by_rules.Goals as goal

pub returns : goal.returns
returns c = made
