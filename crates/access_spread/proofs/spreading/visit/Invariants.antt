use Rattle.std.proofs.Common.{◌≡◌, slice_get, Some}
use Rattle.access_spread.specs.Spreads.{Fits, Grows, IsRoomy, start_at}
use Rattle.access_spread.proofs.Visiting.{MeetsBefore}
use Rattle.access_spread.proofs.spreading.visit.Given as goal

abbrev pub invariant-loop-place : goal.invariant-loop-place
invariant-loop-place l = record {
  fits : Fits l.graph l.gates l.starts l.state;
  grows : Grows l.fn.state l.state;
  fan : slice_get l.graph.fans.items l.row.array ≡ Some l.place-items;
  row : slice_get l.fn.state.rows.items l.here ≡ Some l.row;
  start : l.start ≡ start_at l.starts l.row.start;
  meets : IsRoomy l.state → MeetsBefore l.graph l.gates l.lanes l.starts l.place-items l.place-index l.state l.row;
}
