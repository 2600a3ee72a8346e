use Rattle.std.proofs.Common.{◌≡◌, ◌<◌, None, Some, length, refl, sym, ap, ◌∙◌, subst, arith}
use Rattle.std.specs.Prelude.{slice_get, slice_index_or}
use Rattle.std.proofs.lemmas.Option.{slice_get_read}
use Rattle.std.proofs.lemmas.List.{take_all}
use Rattle.access_spread.specs.declared.spreading.Row.{Row}
use Rattle.access_spread.specs.Spreads.{IsWayOf}
use Rattle.access_walk.specs.Networks.{moves_at}
use Rattle.access_walk.proofs.Lists.{read, some_at, same_at}
use Rattle.access_walk.proofs.Passing.{edge_within}
use Rattle.access_walk.proofs.accesses.access_of.Goals as goal

abbrev no_row : Row
no_row = record { array = 0; start = 0; from = None }

pub loop-edge-init : goal.loop-edge-init
loop-edge-init c =
    let g = c.args.network.now.graph in
    let rows = c.args.rows.now in
    let place = c.args.place in
    let gates = c.args.values.now.gates.items in
    let starts = c.args.values.now.starts.items in
    let edges = c.in_ok-edges.edges.items in
    let items = c.deref-edge-items.result.now in
    let way : IsWayOf g gates starts rows place items =
    subst (IsWayOf g gates starts rows place) (sym c.deref-edge-items.ensures.value)
    (subst (λ ss. IsWayOf g gates ss rows place edges) c.deref-2.ensures.value (subst (λ gs. IsWayOf g gs c.deref-2.result.now rows place edges) c.deref.ensures.value c.in_ok-edges.ensures)) in
    record {
      moves = c.new-moves.ensures.items;
      within = λ i lt. let w = edge_within g gates starts rows place items no_row c.requires.place way i lt in omega (arith, w, c.requires.moves);
      way = way;
    }

pub returns : goal.returns
returns c =
    let rows = c.args.rows.now in
    let place = c.args.place in
    let entries = c.args.values.now.entries.items in
    let row : Row = slice_index_or rows place no_row in
    let lt : row.start < length entries = let w = c.requires.started place row (some_at rows place no_row c.requires.place) in omega (arith, w, c.requires.count) in
    let here : slice_get entries row.start ≡ Some c.index.result.now = slice_get_read entries (length entries) row.start c.index.result.now refl lt c.index.ensures in
    record {
      way = c.deref-edge-items.result.now;
      is_way = c.loop-edge.invariant.way;
      begins = λ r e q at.
          let same : row ≡ r = read rows place r no_row q in
          ap (λ x. x.origin) (same_at entries r.start c.index.result.now e (ap (λ z. slice_get entries z.start) (sym same) ∙ here) at);
      path = c.from_vec.ensures ∙ c.loop-edge.invariant.moves ∙ ap (moves_at c.args.network.now.moves.items) (take_all c.loop-edge.edge-index c.deref-edge-items.result.now c.loop-edge-test.false);
    }
