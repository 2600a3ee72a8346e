use Rattle.smt_words.proofs.LawsOfNumbers.{divides, rest_below}
use Rattle.smt_words.proofs.laws.quotient_and_remainder_give_the_dividend.Goals as goal

pub returns-clause-whole : goal.returns-clause-whole
returns-clause-whole c = divides

pub returns-clause-below : goal.returns-clause-below
returns-clause-below c = rest_below
