use Rattle.accepted_proof.proofs.Reading.{accepted_read_one}
use Rattle.accepted_proof.proofs.laws.scripts_are_read_one_way.Goals as goal

pub returns : goal.returns
returns c = accepted_read_one
