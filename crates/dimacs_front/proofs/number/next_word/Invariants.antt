use Rattle.std.proofs.Common.{◌≡◌, ◌-◌, ◌<◌, ◌≤◌, take, drop, length}
use Rattle.dimacs_front.specs.Words.{words_of, words_from}
use Rattle.dimacs_front.proofs.number.next_word.Given as goal

abbrev pub invariant-loop-size : goal.invariant-loop-size
invariant-loop-size l = record {
  some : 0 < l.size;
  within : l.size ≤ length l.rest;
  words : words_of l.rest ≡ words_from (take l.size l.rest) (drop l.size l.rest);
}

abbrev pub decreases-loop-size : goal.decreases-loop-size
decreases-loop-size l = length l.initial.rest - l.size
