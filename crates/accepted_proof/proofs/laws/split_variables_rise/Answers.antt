use Rattle.proof_log.specs.Logs.{start, state_of}
use Rattle.proof_log.proofs.Staying.{Holds-refl}
use Rattle.accepted_proof.proofs.Splitting.{steps_rise}
use Rattle.accepted_proof.proofs.laws.split_variables_rise.Goals as goal

pub returns : goal.returns
returns c = λ roots nodes log h. steps_rise roots nodes (state_of nodes log) start log h (Holds-refl (state_of nodes log))
