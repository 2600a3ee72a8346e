use Rattle.smt_syntax.proofs.Cuts.{spans_are, spans_stand}
use Rattle.smt_syntax.proofs.parts.parts.Goals as goal

pub returns-clause-spans : goal.returns-clause-spans
returns-clause-spans c = λ es w t. spans_are _ _ _ es c.in_ok-found.ensures t

pub returns-clause-stand : goal.returns-clause-stand
returns-clause-stand c = λ es w t. spans_stand _ _ _ es w t (spans_are _ _ _ es c.in_ok-found.ensures t)
