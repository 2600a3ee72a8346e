use Rattle.smt_terms.proofs.Made.{made, terms_made, same_number}
use Rattle.smt_terms.proofs.laws.equal_nodes_have_equal_numbers.Goals as goal

pub returns-clause-kept : goal.returns-clause-kept
returns-clause-kept c v w n t h agrees e = terms_made v w n t h agrees (made v w n t e)

pub returns-clause-numbers : goal.returns-clause-numbers
returns-clause-numbers c v w x n m t u h agrees e f = same_number v w x n m t u h agrees (made v w n t e) (made w x m u f)
