use Rattle.std.proofs.Common.{◌≡◌, ℕ, List, [], Some, length, slice_get}
use Rattle.access_spread.proofs.graph.Graph.new.Given as goal

abbrev pub invariant-loop : goal.invariant-loop
invariant-loop l = record {
  count : length l.fans.items ≡ l.counter;
  empty : (a : ℕ) (f : List ℕ) → slice_get l.fans.items a ≡ Some f → f ≡ [];
}
