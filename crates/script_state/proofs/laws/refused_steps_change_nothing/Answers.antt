use Rattle.script_state.proofs.Deciding.{refused_changes_nothing}
use Rattle.script_state.proofs.laws.refused_steps_change_nothing.Goals as goal

pub returns : goal.returns
returns c = refused_changes_nothing
