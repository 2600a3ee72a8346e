use Rattle.script_state.proofs.Deciding.{values_after_sat}
use Rattle.script_state.proofs.laws.values_forget_to_the_old_state.Goals as goal

pub returns : goal.returns
returns c = values_after_sat
