use Rattle.std.proofs.Common.{◌≡◌, length}
use Rattle.access_walk.specs.Lanes.{AreMarks}
use Rattle.access_walk.proofs.lanes.Lanes.mark_below.Given as goal

abbrev pub invariant-loop-place : goal.invariant-loop-place
invariant-loop-place l = record {
  marks : AreMarks l.self.under.items l.self.marked.items;
  count : length l.self.under.items ≡ length l.reached;
}
