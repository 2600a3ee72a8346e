use Rattle.hub_core.proofs.Sounds.{done_history_tells}
use Rattle.hub_core.proofs.laws.done_histories_tell_of_every_cube.Goals as goal

pub returns : goal.returns
returns c = done_history_tells
