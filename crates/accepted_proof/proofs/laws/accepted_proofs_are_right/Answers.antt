use Rattle.accepted_proof.proofs.Answering.{start_parts_are_right}
use Rattle.accepted_proof.proofs.laws.accepted_proofs_are_right.Goals as goal

pub returns : goal.returns
returns c = λ limits script proof turns accepted. start_parts_are_right accepted.format limits accepted.parts turns accepted.turns_are accepted.run
