use Rattle.converted_proofs.proofs.Accepting.{stays_accepted}
use Rattle.converted_proofs.proofs.laws.converted_proofs_are_accepted.Goals as goal

pub returns : goal.returns
returns c = stays_accepted
