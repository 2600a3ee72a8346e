use Rattle.std.proofs.Common.{◌≡◌, Some, refl, sym, ap, ◌∙◌, length, slice_set, arith}
use Rattle.std.specs.Prelude.{slice_get}
use Rattle.std.proofs.lemmas.Option.{slice_get_read, slice_get_within}
use Rattle.access_spread.specs.Spreads.{value_in}
use Rattle.access_spread.proofs.Arriving.{new_has, stands_has}
use Rattle.access_spread.proofs.spreading.arrive.Goals as goal

pub returns-then-starts-index : goal.returns-then-starts-index
returns-then-starts-index c =
    let rows = c.args.state.now.rows.items in
    stands_has c.args.graph.now c.args.gates.now c.args.starts.now c.args.state.now c.args.row c.requires.fits c.requires.array c.requires.start c.requires.index c.requires.from c.in-Some.place c.in-Some.ensures
    (λ r q.
    let lt = slice_get_within rows c.in-Some.place r q in
    let at : slice_get rows c.in-Some.place ≡ Some c.index.result.now = slice_get_read rows (length rows) c.in-Some.place c.index.result.now refl (omega (arith, lt)) c.index.ensures in
    let own : c.index.result.now ≡ r = (let x : Some c.index.result.now ≡ Some r = sym at ∙ q in cc) in
    ap (value_in c.args.starts.now) (sym own) ∙ c.if-starts-index.true)

pub refuse-requires-clause-other : goal.refuse-requires-clause-other
refuse-requires-clause-other c =
    let rows = c.args.state.now.rows.items in
    λ r q e.
    let lt = slice_get_within rows c.in-Some.place r q in
    let at : slice_get rows c.in-Some.place ≡ Some c.index.result.now = slice_get_read rows (length rows) c.in-Some.place c.index.result.now refl (omega (arith, lt)) c.index.ensures in
    let own : c.index.result.now ≡ r = (let x : Some c.index.result.now ≡ Some r = sym at ∙ q in cc) in
    c.if-starts-index.false (ap (value_in c.args.starts.now) own ∙ e)

pub returns : goal.returns
returns c =
    new_has c.args.graph.now c.args.gates.now c.args.starts.now c.args.state.now c.args.row c.requires.fits c.requires.array c.requires.start c.requires.index c.requires.from
    (record { rows = c.push.new.self; refused = c.args.state.now.refused; last = Rattle.std.specs.Vec.with_item c.args.state.now.last c.args.row.array (Some c.len-place.result); begun = c.args.state.now.begun; index = c.args.state.now.index })
    c.in_default.ensures c.in_ok-push.ensures.items (let n : c.len-place.result ≡ length c.args.state.now.rows.items = omega arith in ap (λ k. slice_set c.args.state.now.last.items c.args.row.array (Some k)) n) refl refl refl
