use Rattle.cnf_base.proofs.Agreeing.{same_all_true}
use Rattle.cnf_base.proofs.laws.agreement_keeps_truth.Goals as goal

pub returns : goal.returns
returns c = same_all_true
