use Rattle.proof_log.proofs.Standing.{stands_longer}
use Rattle.proof_log.proofs.laws.more_terms_keep_stored_logs.Goals as goal

pub returns : goal.returns
returns c = stands_longer
