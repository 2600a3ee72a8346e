use Rattle.std.proofs.Common.{◌≡◌, length}
use Rattle.dimacs_front.specs.Words.{words_of}
use Rattle.dimacs_front.specs.Cnf.{with_words}
use Rattle.dimacs_front.proofs.cnf.take_words.Given as goal

abbrev pub invariant-words : goal.invariant-words
invariant-words l = with_words l.header l.rows (words_of l.left) ≡ with_words l.header l.fn.rows (words_of l.line)

abbrev pub decreases-words : goal.decreases-words
decreases-words l = length l.left
