use Rattle.proof_checker.proofs.Passing.{judged_one_way}
use Rattle.proof_checker.proofs.check_laws.texts_are_judged_one_way.Goals as goal

pub returns : goal.returns
returns c = λ script proof vs us o q. judged_one_way script proof vs us o q
