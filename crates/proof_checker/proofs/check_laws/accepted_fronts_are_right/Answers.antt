use Rattle.proof_checker.proofs.RightFronts.{fronts_right}
use Rattle.proof_checker.proofs.check_laws.accepted_fronts_are_right.Goals as goal

pub returns : goal.returns
returns c = fronts_right
