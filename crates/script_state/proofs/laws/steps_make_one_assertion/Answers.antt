use Rattle.script_state.proofs.Deciding.{makes_one}
use Rattle.script_state.proofs.laws.steps_make_one_assertion.Goals as goal

pub returns : goal.returns
returns c = makes_one
