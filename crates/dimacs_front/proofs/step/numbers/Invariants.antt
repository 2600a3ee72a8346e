use Rattle.std.proofs.Common.{◌≡◌, length}
use Rattle.dimacs_front.specs.Words.{words_of}
use Rattle.dimacs_front.specs.Lrat.{numbers_in}
use Rattle.dimacs_front.proofs.Hints.{behind}
use Rattle.dimacs_front.proofs.step.numbers.Given as goal

abbrev pub invariant-words : goal.invariant-words
invariant-words l = behind l.items.items (numbers_in (words_of l.left)) ≡ numbers_in (words_of l.line)

abbrev pub decreases-words : goal.decreases-words
decreases-words l = length l.left
