use Rattle.script_state.proofs.Deciding.{ends_by_exit}
use Rattle.script_state.proofs.laws.runs_end_by_exit.Goals as goal

pub returns : goal.returns
returns c = ends_by_exit
