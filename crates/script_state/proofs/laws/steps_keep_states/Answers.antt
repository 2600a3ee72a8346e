use Rattle.script_state.proofs.Keeping.{step_state}
use Rattle.script_state.proofs.laws.steps_keep_states.Goals as goal

pub returns : goal.returns
returns c = step_state
