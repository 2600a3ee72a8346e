use Rattle.std.proofs.Common.{◌≡◌, ◌≤◌, length, take}
use Rattle.cube_search.proofs.retarget.shared.Given as goal

abbrev pub invariant-places : goal.invariant-places
invariant-places l = record {
  new : l.place ≤ length l.new;
  same : take l.place l.old ≡ take l.place l.new;
}
