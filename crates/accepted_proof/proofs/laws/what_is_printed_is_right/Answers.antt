use Rattle.accepted_proof.proofs.Standing.{first_turns_printed}
use Rattle.accepted_proof.proofs.laws.what_is_printed_is_right.Goals as goal

pub returns : goal.returns
returns c = first_turns_printed
