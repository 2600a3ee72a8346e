use Rattle.accepted_proof.proofs.Once.{judged_once, proof_judged_once}
use Rattle.accepted_proof.proofs.judging.proofs_are_judged_one_way.Goals as goal

pub returns-clause-rest : goal.returns-clause-rest
returns-clause-rest c = λ judging says lines o p. judged_once lines judging says o p

pub returns-clause-whole : goal.returns-clause-whole
returns-clause-whole c = proof_judged_once
