use Rattle.proof_checker.proofs.Passing.{accepted_right}
use Rattle.proof_checker.proofs.check_laws.what_is_accepted_is_right.Goals as goal

pub returns : goal.returns
returns c = λ script proof vs h. accepted_right c.judged_proofs_are_accepted.ensures c.accepted_proofs_are_right.ensures script proof vs h
