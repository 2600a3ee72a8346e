use Rattle.bv_rules.proofs.Keeping.{keeps_evaluations}
use Rattle.bv_rules.proofs.laws.rules_keep_evaluations.Goals as goal

pub returns : goal.returns
returns c = keeps_evaluations
