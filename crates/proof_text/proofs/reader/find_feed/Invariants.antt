use Rattle.std.proofs.Common.{◌≡◌, ◌-◌, ◌≤◌, true, take, length}
use Rattle.proof_text.specs.Held.{without_feed}
use Rattle.proof_text.proofs.reader.find_feed.Given as goal

abbrev pub invariant-loop-size : goal.invariant-loop-size
invariant-loop-size l = record {
  within : l.size ≤ length l.bytes;
  searched : without_feed (take l.size l.bytes) ≡ true;
}

abbrev pub decreases-loop-size : goal.decreases-loop-size
decreases-loop-size l = length l.initial.bytes - l.size
