use Rattle.proof_log.proofs.Settled.{stands_settled}
use Rattle.proof_log.proofs.laws.stored_logs_are_settled.Goals as goal

pub returns : goal.returns
returns c = stands_settled
