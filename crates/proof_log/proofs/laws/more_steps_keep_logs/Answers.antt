use Rattle.proof_log.proofs.Staying.{log_stays}
use Rattle.proof_log.proofs.laws.more_steps_keep_logs.Goals as goal

pub returns : goal.returns
returns c = log_stays
