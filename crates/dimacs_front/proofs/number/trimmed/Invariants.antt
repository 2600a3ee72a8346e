use Rattle.std.proofs.Common.{◌≡◌, ◌-◌, ◌≤◌, drop, length}
use Rattle.dimacs_front.specs.Words.{words_of}
use Rattle.dimacs_front.proofs.number.trimmed.Given as goal

abbrev pub invariant-loop-size : goal.invariant-loop-size
invariant-loop-size l = record {
  within : l.size ≤ length l.line;
  words : words_of l.line ≡ words_of (drop l.size l.line);
}

abbrev pub decreases-loop-size : goal.decreases-loop-size
decreases-loop-size l = length l.initial.line - l.size
