use Rattle.std.proofs.Common.{◌<◌, length, arith}
use Rattle.access_spread.specs.Spreads.{IsVisited}
use Rattle.access_spread.proofs.Visiting.{roomy, grows_trans, grows_within, visited_grows, visited_next}
use Rattle.access_spread.proofs.spreading.drain.Goals as goal

pub loop-at-preserved : goal.loop-at-preserved
loop-at-preserved c =
    let v : IsVisited c.args.graph.now c.args.gates.now c.args.lanes.now c.args.starts.now c.loop-at.state c.visit.new.state c.loop-at.at = c.in_ok-visit.ensures in
    let inv = c.loop-at.invariant in
    let lt : c.loop-at.at < length c.loop-at.state.rows.items = omega arith in
    let more = grows_within c.args.graph.now c.args.gates.now c.args.lanes.now c.args.starts.now c.loop-at.state c.visit.new.state v.grows c.loop-at.at lt in
    record {
      fits = v.fits;
      grows = grows_trans c.args.graph.now c.args.gates.now c.args.lanes.now c.args.starts.now c.args.state.now c.loop-at.state c.visit.new.state inv.grows v.grows;
      within = omega (arith, more);
      begun = omega (arith, inv.begun);
      visited = λ room. visited_next c.args.graph.now c.args.gates.now c.args.lanes.now c.args.starts.now c.visit.new.state c.loop-at.at
          (visited_grows c.args.graph.now c.args.gates.now c.args.lanes.now c.args.starts.now c.loop-at.state c.visit.new.state c.loop-at.at v.grows inv.within (inv.visited (roomy c.loop-at.state c.visit.new.state v.grows room))) (v.meets room);
    }
