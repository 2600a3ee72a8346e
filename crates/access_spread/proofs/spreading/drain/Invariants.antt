use Rattle.std.proofs.Common.{◌≤◌, length}
use Rattle.access_spread.specs.Spreads.{Fits, Grows, IsRoomy, AreVisited}
use Rattle.access_spread.proofs.spreading.drain.Given as goal

abbrev pub invariant-loop-at : goal.invariant-loop-at
invariant-loop-at l = record {
  fits : Fits l.graph l.gates l.starts l.state;
  grows : Grows l.fn.state l.state;
  within : l.at ≤ length l.state.rows.items;
  begun : l.fn.state.begun ≤ l.at;
  visited : IsRoomy l.state → AreVisited l.graph l.gates l.lanes l.starts l.state.rows.items l.state.refused.items l.at;
}
