use Rattle.bv_rules.proofs.Keeping.{keeps_sorts}
use Rattle.bv_rules.proofs.laws.rules_keep_sorts.Goals as goal

pub returns : goal.returns
returns c = keeps_sorts
