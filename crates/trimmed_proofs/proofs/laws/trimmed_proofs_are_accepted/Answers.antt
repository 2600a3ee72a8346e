use Rattle.trimmed_proofs.proofs.Telling.{trimmed_accepted}
use Rattle.trimmed_proofs.proofs.laws.trimmed_proofs_are_accepted.Goals as goal

pub returns : goal.returns
returns c = trimmed_accepted
