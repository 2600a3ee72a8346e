use Rattle.accepted_proof.proofs.Following.{judged_line, judged_past, judged_last}
use Rattle.accepted_proof.proofs.judging.the_rest_is_judged_as_the_whole.Goals as goal

pub returns-clause-line : goal.returns-clause-line
returns-clause-line c = λ old new says line lines o. judged_line old new says line lines o

pub returns-clause-command : goal.returns-clause-command
returns-clause-command c = λ old says first lines o. judged_past old first says lines o

pub returns-clause-last : goal.returns-clause-last
returns-clause-last c = λ old says first lines o. judged_last old first says lines o
