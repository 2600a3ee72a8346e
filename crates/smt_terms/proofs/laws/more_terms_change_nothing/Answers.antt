use Rattle.smt_terms.proofs.Growing.{sort_longer}
use Rattle.smt_terms.proofs.Evaluating.{value_longer}
use Rattle.smt_terms.proofs.laws.more_terms_change_nothing.Goals as goal

pub returns-clause-sort : goal.returns-clause-sort
returns-clause-sort c = sort_longer

pub returns-clause-value : goal.returns-clause-value
returns-clause-value c = value_longer
