use Rattle.dimacs_front.proofs.Reading.{word_taken, word_stops, words_end}
use Rattle.dimacs_front.proofs.cnf.take_words.Goals as goal

pub returns-in-Err : goal.returns-in-Err
returns-in-Err c = word_stops c.args.header c.words.rows c.in-Some.word.now _ _ _ c.in-Err.stop c.in-Some.ensures.words (rw c.signed_number.ensures.value at c.in-Err.ensures) c.words.invariant

pub words-preserved : goal.words-preserved
words-preserved c = word_taken c.args.header c.words.rows c.take_number.new.rows c.in-Some.word.now _ _ _ c.in-Some.ensures.words (rw c.signed_number.ensures.value at c.in-Ok.ensures) c.words.invariant

pub returns : goal.returns
returns c = words_end c.args.header c.words.rows _ _ c.in_default.ensures.words c.words.invariant
