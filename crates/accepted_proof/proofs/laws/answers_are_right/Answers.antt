use Rattle.accepted_proof.proofs.Answering.{first_turns_are_right}
use Rattle.accepted_proof.proofs.laws.answers_are_right.Goals as goal

pub returns : goal.returns
returns c = first_turns_are_right
