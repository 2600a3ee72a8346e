use Rattle.std.proofs.Common.{◌≡◌, ◌<◌, Some, None, sym, subst, slice_get, slice_index_or, arith}
use Rattle.std.proofs.lemmas.Option.{slice_get-get_or}
use Rattle.access_spread.specs.declared.spreading.Row.{Row}
use Rattle.access_spread.specs.Spreads.{IsWayOf}
use Rattle.access_spread.proofs.Ways.{IsRest, first_rest, next_rest, whole_way}
use Rattle.access_spread.proofs.path.path_of.Goals as goal

abbrev no_row : Row
no_row = record { array = 0; start = 0; from = None }

pub rows-init : goal.rows-init
rows-init c = record {
  within = c.requires.place;
  rest = subst (IsRest c.args.graph.now c.args.gates.now c.args.starts.now c.args.rows.now c.args.place c.args.place) (sym c.new-path.ensures.items) (first_rest c.args.graph.now c.args.gates.now c.args.starts.now c.args.rows.now c.requires.derived c.args.place);
}

next : (c : goal.In_ok-push) → (c.in-Some.link.row < c.rows.at) × IsRest c.args.graph.now c.args.gates.now c.args.starts.now c.args.rows.now c.args.place c.in-Some.link.row c.push.new.self.items
next c =
    let q : Row = slice_index_or c.args.rows.now c.rows.at no_row in
    let here : slice_get c.args.rows.now c.rows.at ≡ Some q = slice_get-get_or c.args.rows.now c.rows.at no_row (omega (arith, c.rows.invariant.within)) in
    let r = next_rest c.args.graph.now c.args.gates.now c.args.starts.now c.args.rows.now c.requires.derived c.args.place c.rows.at q here c.rows.path.items c.rows.invariant.rest c.in-Some.link c.in-Some.is in
    (r.0, subst (IsRest c.args.graph.now c.args.gates.now c.args.starts.now c.args.rows.now c.args.place c.in-Some.link.row) (sym c.in_ok-push.ensures.items) r.1)

pub rows-preserved : goal.rows-preserved
rows-preserved c =
    let n = next c in
    record { within = omega (arith, n.0, c.rows.invariant.within); rest = n.1 }

pub rows-smaller : goal.rows-smaller
rows-smaller c = (next c).0

pub returns : goal.returns
returns c =
    let q : Row = slice_index_or c.args.rows.now c.rows.at no_row in
    let here : slice_get c.args.rows.now c.rows.at ≡ Some q = slice_get-get_or c.args.rows.now c.rows.at no_row (omega (arith, c.rows.invariant.within)) in
    let w = whole_way c.args.graph.now c.args.gates.now c.args.starts.now c.args.rows.now c.requires.derived c.args.place c.rows.at q here c.rows.path.items c.rows.invariant.rest c.in_default.is in
    subst (IsWayOf c.args.graph.now c.args.gates.now c.args.starts.now c.args.rows.now c.args.place) (sym c.reverse.ensures.items) w
