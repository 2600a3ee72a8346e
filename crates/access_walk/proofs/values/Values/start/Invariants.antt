use Rattle.std.proofs.Common.{◌≡◌, take}
use Rattle.access_walk.specs.Valuing.{starts_in}
use Rattle.access_walk.proofs.values.Values.start.Given as goal

abbrev pub invariant-loop-place : goal.invariant-loop-place
invariant-loop-place l = record {
  entries : l.self.entries.items ≡ l.fn.self.entries.items;
  starts : l.self.starts.items ≡ starts_in (take l.place l.self.entries.items);
}
