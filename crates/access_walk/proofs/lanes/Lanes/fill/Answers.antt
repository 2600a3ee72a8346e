use Rattle.std.proofs.Common.{◌≡◌, ◌++◌, ◌∷◌, [], ◌<◌, false, Some, length, refl, sym, ap, ◌∙◌, arith, length-append}
use Rattle.std.specs.Prelude.{slice_get, slice_index_or}
use Rattle.std.proofs.lemmas.Option.{slice_get_read, slice_get_within}
use Rattle.access_walk.specs.Lanes.{lane_of}
use Rattle.access_walk.proofs.Lists.{read}
use Rattle.access_walk.proofs.Marks.{lane_at, lanes_step}
use Rattle.access_walk.proofs.lanes.Lanes.fill.Goals as goal

pub loop-place-preserved : goal.loop-place-preserved
loop-place-preserved c =
    let n = c.args.network.now in
    let edges = n.graph.edges.items in
    let moves = n.moves.items in
    let place = c.loop-place.place in
    let under = c.loop-place.self.under.items in
    let e = c.index-edge.result.now in
    let m = c.index.result.now in
    let lt : place < length edges = omega arith in
    let less : place < length moves = omega (arith, lt, c.requires.sound.moves) in
    let edge : slice_get edges place ≡ Some e = slice_get_read edges (length edges) place e refl lt c.index-edge.ensures in
    let move : slice_get moves place ≡ Some m = slice_get_read moves (length moves) place m refl less c.index.ensures in
    let to = (c.requires.sound.graph.within place e edge).1 in
    let room : e.to < length under = omega (arith, to, c.requires.sound.count, c.loop-place.invariant.under) in
    let mark : slice_get under e.to ≡ Some c.index-under.result.now = slice_get_read under (length under) e.to c.index-under.result.now refl room c.index-under.ensures in
    let is : c.lane_of-lane.result ≡ lane_at c.args.reached.now n under e m =
    c.lane_of-lane.ensures ∙ ap (λ xs. lane_of (slice_index_or xs e.from 0) m c.index-under.result.now) c.terms-arrays.ensures.terms ∙ ap (lane_of (slice_index_or c.args.reached.now e.from 0) m) (sym (read under e.to c.index-under.result.now false mark)) in
    let same : c.push.new.self.items ≡ c.loop-place.self.lanes.items ++ lane_at c.args.reached.now n under e m ∷ [] = c.in_ok-push.ensures.items ∙ ap (λ x. c.loop-place.self.lanes.items ++ x ∷ []) is in
    record {
      under = c.loop-place.invariant.under;
      count = omega (arith, ap length same, length-append c.loop-place.self.lanes.items (lane_at c.args.reached.now n under e m ∷ []), c.loop-place.invariant.count);
      lanes = lanes_step c.args.reached.now n under c.loop-place.self.lanes.items c.push.new.self.items place e m c.loop-place.invariant.count edge move same c.loop-place.invariant.lanes;
    }

pub returns : goal.returns
returns c = λ j e m p q.
    let lt = slice_get_within c.args.network.now.graph.edges.items j e p in
    let less : j < c.loop-place.place = omega (arith, lt) in
    c.loop-place.invariant.lanes j e m p q less
