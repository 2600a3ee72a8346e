use Rattle.script_state.proofs.Deciding.{cores_after_unsat}
use Rattle.script_state.proofs.laws.a_core_stands_after_unsat.Goals as goal

pub returns : goal.returns
returns c = cores_after_unsat
