use Rattle.bv_rules.proofs.Keeping.{keeps_values}
use Rattle.bv_rules.proofs.laws.rules_keep_values.Goals as goal

pub returns : goal.returns
returns c = keeps_values
