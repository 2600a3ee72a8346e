use Rattle.std.proofs.Common.{map, refl}
use Rattle.proof_text.specs.declared.line.Format.TheVariants.{Two}
use Rattle.accepted_proof.specs.Turns.{turn_of}
use Rattle.accepted_proof.proofs.Answering.{start_parts_are_right}
use Rattle.accepted_proof.proofs.laws.answers_beside_proofs_are_right.Goals as goal

pub returns : goal.returns
returns c = λ limits script answers proof beside. start_parts_are_right Two limits beside.parts (map turn_of beside.parts) refl beside.run
