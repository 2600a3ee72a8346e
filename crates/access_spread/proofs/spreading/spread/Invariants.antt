use Rattle.std.proofs.Common.{ℕ, ◌≤◌, ◌<◌, length}
use Rattle.access_spread.specs.Spreads.{Fits, IsMet, IsRoomy, AreVisited, start_at}
use Rattle.access_spread.proofs.spreading.spread.Given as goal

abbrev pub invariant-loop-start : goal.invariant-loop-start
invariant-loop-start l = record {
  fits : Fits l.graph l.gates l.starts l.state;
  visited : IsRoomy l.state → AreVisited l.graph l.gates l.lanes l.starts l.state.rows.items l.state.refused.items (length l.state.rows.items);
  index : (s : ℕ) → l.start ≤ s → s < length l.starts → l.state.index ≤ (start_at l.starts s).index;
  met : IsRoomy l.state → (s : ℕ) → s < l.start → IsMet l.starts l.state.rows.items l.state.refused.items (start_at l.starts s).array (start_at l.starts s).index (start_at l.starts s).value;
}
