use Rattle.std.proofs.Common.{◌≡◌, ◌∙◌, length, subst, sym, refl, arith}
use Rattle.access_spread.specs.declared.spreading.State.{State}
use Rattle.access_spread.specs.Spreads.{Grows, AreVisited}
use Rattle.access_spread.proofs.Visiting.{grows_length, met_grows, roomy, visited_grows}
use Rattle.access_spread.proofs.spreading.begin.Goals as goal

abbrev mid : goal.After-drain-arg-1 → State
mid c = record { rows = c.args.state.now.rows; refused = c.args.state.now.refused; last = c.args.state.now.last; begun = c.arrive.new.state.begun; index = c.arrive.new.state.index }

grown : (c : goal.After-drain-arg-1) → Grows (mid c) c.arrive.new.state × (c.arrive.new.state.begun ≡ length c.args.state.now.rows.items)
grown c =
    let h = c.in_ok-arrive.ensures in
    let n : c.len-state.result ≡ length c.args.state.now.rows.items = omega arith in
    (record { rows = h.grows.rows; refusals = h.grows.refusals; begun = refl; index = refl }, h.grows.begun ∙ n)

pub drain-requires-clause-visited : goal.drain-requires-clause-visited
drain-requires-clause-visited c =
    let g = grown c in
    λ room.
    let v = visited_grows c.args.graph.now c.args.gates.now c.args.lanes.now c.args.starts.now (mid c) c.arrive.new.state (length c.args.state.now.rows.items) g.0 (omega arith) (c.requires.visited (roomy (mid c) c.arrive.new.state g.0 room)) in
    subst (AreVisited c.args.graph.now c.args.gates.now c.args.lanes.now c.args.starts.now c.arrive.new.state.rows.items c.arrive.new.state.refused.items) (sym g.1) v

pub drain-requires-clause-begun : goal.drain-requires-clause-begun
drain-requires-clause-begun c =
    let g = grown c in
    let l = grows_length c.args.graph.now c.args.gates.now c.args.lanes.now c.args.starts.now (mid c) c.arrive.new.state g.0 in
    omega (arith, l, g.1)

pub returns : goal.returns
returns c =
    let a = c.in_ok-arrive.ensures in
    let d = c.in_ok-drain.ensures in
    record {
      fits = d.fits;
      kept = λ p r q. d.grows.rows p r (a.grows.rows p r q);
      refusals = λ k r q. d.grows.refusals k r (a.grows.refusals k r q);
      visited = d.visited;
      index = d.grows.index ∙ a.grows.index;
      met = λ room. met_grows c.args.starts.now c.arrive.new.state c.drain.new.state d.grows _ _ _ (a.met (roomy c.arrive.new.state c.drain.new.state d.grows room));
    }
