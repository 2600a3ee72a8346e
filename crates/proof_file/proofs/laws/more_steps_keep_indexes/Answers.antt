use Rattle.proof_file.proofs.Longer.{longer}
use Rattle.proof_file.proofs.laws.more_steps_keep_indexes.Goals as goal

pub returns : goal.returns
returns c = longer
