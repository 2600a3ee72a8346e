use Rattle.hub_core.proofs.Sounds.{history_is_sound}
use Rattle.hub_core.proofs.laws.every_history_is_sound.Goals as goal

pub returns : goal.returns
returns c = history_is_sound
