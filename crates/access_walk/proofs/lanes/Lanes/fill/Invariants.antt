use Rattle.std.proofs.Common.{◌≡◌, ◌<◌, ℕ, false, length, Some}
use Rattle.std.specs.Prelude.{slice_get, slice_index_or}
use Rattle.theory_terms.specs.declared.lemma.Move.{Move}
use Rattle.access_spread.specs.declared.graph.Edge.{Edge}
use Rattle.access_walk.specs.Lanes.{lane_of}
use Rattle.access_walk.proofs.lanes.Lanes.fill.Given as goal

abbrev pub invariant-loop-place : goal.invariant-loop-place
invariant-loop-place l = record {
  under : length l.self.under.items ≡ length l.reached;
  count : length l.self.lanes.items ≡ l.place;
  lanes : (j : ℕ) (e : Edge) (m : Move) → slice_get l.network.graph.edges.items j ≡ Some e → slice_get l.network.moves.items j ≡ Some m → j < l.place → slice_get l.self.lanes.items j ≡ Some (lane_of (slice_index_or l.reached e.from 0) m (slice_index_or l.self.under.items e.to false));
}
