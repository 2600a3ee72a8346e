use Rattle.proof_log.proofs.Linked.{log_linked}
use Rattle.proof_log.proofs.laws.images_are_linked.Goals as goal

pub returns : goal.returns
returns c = log_linked
