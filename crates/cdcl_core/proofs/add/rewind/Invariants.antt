use Rattle.std.proofs.Common.{ℕ, ◌<◌, ◌≤◌, get_or}
use Rattle.cdcl_core.proofs.add.rewind.Given as goal

abbrev pub invariant-back : goal.invariant-back
invariant-back l = record {
  lower : l.head ≤ l.t.head;
  after : (i : ℕ) → l.head ≤ i → i < l.t.head → l.t.level < get_or l.t.stamps.items (get_or l.t.codes.items i 0) 0;
}

abbrev pub decreases-back : goal.decreases-back
decreases-back l = l.head
