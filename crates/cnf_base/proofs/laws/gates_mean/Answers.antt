use Rattle.cnf_base.proofs.Meaning.{gates_mean}
use Rattle.cnf_base.proofs.laws.gates_mean.Goals as goal

pub returns : goal.returns
returns c = gates_mean
