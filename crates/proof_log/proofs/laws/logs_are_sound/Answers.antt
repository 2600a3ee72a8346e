use Rattle.proof_log.proofs.Sound.{log_is_sound}
use Rattle.proof_log.proofs.laws.logs_are_sound.Goals as goal

pub returns : goal.returns
returns c = log_is_sound
