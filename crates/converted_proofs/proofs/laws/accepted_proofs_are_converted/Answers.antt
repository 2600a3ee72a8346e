use Rattle.converted_proofs.proofs.Accepting.{never_refused}
use Rattle.converted_proofs.proofs.laws.accepted_proofs_are_converted.Goals as goal

pub returns : goal.returns
returns c = never_refused
