use Rattle.script_state.proofs.Deciding.{models_after_sat}
use Rattle.script_state.proofs.laws.a_model_stands_after_sat.Goals as goal

pub returns : goal.returns
returns c = models_after_sat
