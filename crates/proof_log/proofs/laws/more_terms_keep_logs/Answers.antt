use Rattle.proof_log.proofs.Staying.{log_over}
use Rattle.proof_log.proofs.laws.more_terms_keep_logs.Goals as goal

pub returns : goal.returns
returns c = λ nodes more log all i. log_over nodes more all log i
