use Rattle.accepted_proof.proofs.Beginning.{judged_begins}
use Rattle.accepted_proof.proofs.judging.judged_fronts_are_accepted.Goals as goal

pub returns : goal.returns
returns c = judged_begins
