use Rattle.proof_log.proofs.Ordered.{log_is_ordered}
use Rattle.proof_log.proofs.laws.logs_are_ordered.Goals as goal

pub returns : goal.returns
returns c = log_is_ordered
