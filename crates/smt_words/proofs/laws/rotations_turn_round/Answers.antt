use Rattle.smt_words.proofs.LawsOfNumbers.{left_whole, right_whole, back}
use Rattle.smt_words.proofs.laws.rotations_turn_round.Goals as goal

pub returns-clause-left : goal.returns-clause-left
returns-clause-left c = left_whole

pub returns-clause-right : goal.returns-clause-right
returns-clause-right c = right_whole

pub returns-clause-back : goal.returns-clause-back
returns-clause-back c = back
