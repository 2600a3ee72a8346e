use Rattle.proof_checker.proofs.Passing.{accepted_pass}
use Rattle.proof_checker.proofs.check_laws.accepted_proofs_pass.Goals as goal

pub returns : goal.returns
returns c = λ limits script proof turns h. accepted_pass c.accepted_proofs_are_judged.ensures limits script proof turns h
