use Rattle.smt_terms.proofs.Evaluating.{value_is_evaluation}
use Rattle.smt_terms.proofs.laws.values_are_an_evaluation.Goals as goal

pub returns : goal.returns
returns c = value_is_evaluation
