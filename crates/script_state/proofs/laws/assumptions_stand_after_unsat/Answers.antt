use Rattle.script_state.proofs.Deciding.{assumptions_after_unsat}
use Rattle.script_state.proofs.laws.assumptions_stand_after_unsat.Goals as goal

pub returns : goal.returns
returns c = assumptions_after_unsat
