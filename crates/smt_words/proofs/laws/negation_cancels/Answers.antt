use Rattle.smt_words.proofs.LawsOfNumbers.{cancels, difference}
use Rattle.smt_words.proofs.laws.negation_cancels.Goals as goal

pub returns-clause-zero : goal.returns-clause-zero
returns-clause-zero c = cancels

pub returns-clause-difference : goal.returns-clause-difference
returns-clause-difference c = difference
