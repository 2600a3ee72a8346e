use Rattle.cnf_base.proofs.Growing.{Gains-mean}
use Rattle.cnf_base.proofs.laws.gains_mean.Goals as goal

pub returns : goal.returns
returns c = Gains-mean
