use Rattle.std.proofs.Common.{◌≡◌, ℕ, ◌<◌, length, take}
use Rattle.std.specs.Prelude.{slice_index_or}
use Rattle.access_spread.specs.Spreads.{IsWayOf}
use Rattle.access_walk.specs.Networks.{moves_at}
use Rattle.access_walk.proofs.accesses.access_of.Given as goal

abbrev pub invariant-loop-edge : goal.invariant-loop-edge
invariant-loop-edge l = record {
  moves : l.moves.items ≡ moves_at l.network.moves.items (take l.edge-index l.edge-items);
  within : (i : ℕ) → i < length l.edge-items → slice_index_or l.edge-items i 0 < length l.network.moves.items;
  way : IsWayOf l.network.graph l.values.gates.items l.values.starts.items l.rows l.place l.edge-items;
}
