use Rattle.std.proofs.Common.{◌≡◌, ◌-◌, ◌≤◌, take, drop, length}
use Rattle.proof_text.specs.Reading.{fields}
use Rattle.proof_text.proofs.Splitting.{in_front}
use Rattle.proof_text.proofs.words.split_word.Given as goal

abbrev pub invariant-loop-size : goal.invariant-loop-size
invariant-loop-size l = record {
  within : l.size ≤ length l.bytes;
  words : fields l.mark l.bytes ≡ in_front (take l.size l.bytes) (fields l.mark (drop l.size l.bytes));
}

abbrev pub decreases-loop-size : goal.decreases-loop-size
decreases-loop-size l = length l.initial.bytes - l.size
