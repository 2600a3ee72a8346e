use Rattle.std.proofs.Common.{◌≡◌, ◌-◌, length}
use Rattle.cdcl_core.specs.State.{IsSettled, IsGrown}
use Rattle.cdcl_core.proofs.propagate.empty_queue.Given as goal

abbrev pub invariant-queue : goal.invariant-queue
invariant-queue l = record {
  settled : IsSettled l.w l.t;
  same : l.w ≡ record l.fn.w { lists = l.w.lists };
  level : l.t.level ≡ l.fn.t.level;
  size : length l.t.stamps.items ≡ length l.fn.t.stamps.items;
  grown : IsGrown l.fn.t l.t;
}

abbrev pub decreases-queue : goal.decreases-queue
decreases-queue l = length l.t.stamps.items - l.t.head
