use Rattle.proof_log.proofs.Settled.{valid_stands}
use Rattle.proof_log.proofs.laws.valid_steps_stand.Goals as goal

pub returns : goal.returns
returns c = valid_stands
