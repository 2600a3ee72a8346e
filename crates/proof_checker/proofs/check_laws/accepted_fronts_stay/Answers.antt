use Rattle.proof_checker.proofs.Fronts.{fronts_stay}
use Rattle.proof_checker.proofs.check_laws.accepted_fronts_stay.Goals as goal

pub returns : goal.returns
returns c = λ script proof vs us o. fronts_stay script proof vs us o
