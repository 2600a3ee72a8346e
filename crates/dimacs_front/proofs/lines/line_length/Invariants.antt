use Rattle.std.proofs.Common.{◌≡◌, ◌≤◌, ◌-◌, ◌++◌, ℕ, List, length, take, drop}
use Rattle.dimacs_front.specs.Words.{lines_from}
use Rattle.dimacs_front.proofs.lines.line_length.Given as goal

abbrev pub invariant-loop-size : goal.invariant-loop-size
invariant-loop-size l = record {
  within : l.size ≤ length l.bytes;
  same : (begun more : List ℕ) → lines_from begun (l.bytes ++ more) ≡ lines_from (begun ++ take l.size l.bytes) (drop l.size l.bytes ++ more);
}

abbrev pub decreases-loop-size : goal.decreases-loop-size
decreases-loop-size l = length l.bytes - l.size
