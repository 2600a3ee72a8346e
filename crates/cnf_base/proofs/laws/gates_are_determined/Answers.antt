use Rattle.cnf_base.proofs.Extending.{gates-IsDetermined}
use Rattle.cnf_base.proofs.laws.gates_are_determined.Goals as goal

pub returns : goal.returns
returns c = gates-IsDetermined
