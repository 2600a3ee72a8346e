use Rattle.std.proofs.Common.{◌≡◌, ◌≤◌, length, sym, ap, ◌∙◌, subst, arith}
use Rattle.std.specs.Prelude.{Some, Contains, slice_get, slice_index_or}
use Rattle.bit_blast.specs.Assigned.{assigned}
use Rattle.access_tables.specs.Held.{assigned_value}
use Rattle.access_walk.proofs.Lists.{some_at, place_of}
use Rattle.access_walk.proofs.Taken.{AreTakenTo, taken_none, taken_step, taken_all, index_here}
use Rattle.access_walk.proofs.spares.numbers_of.Goals as goal

pub loop-index-init : goal.loop-index-init
loop-index-init c = subst (AreTakenTo c.args.terms.now.nodes c.args.bits.now (Contains c.args.reached.now) (assigned_value c.args.terms.now.nodes c.args.bits.now (assigned c.args.assignment.now)) c.args.indexes.now.terms.items c.args.width 0) (sym c.new-numbers.ensures.items) (taken_none c.args.terms.now.nodes c.args.bits.now (Contains c.args.reached.now) (assigned_value c.args.terms.now.nodes c.args.bits.now (assigned c.args.assignment.now)) c.args.indexes.now.terms.items c.args.width)

pub number_of-number-requires-clause-here : goal.number_of-number-requires-clause-here
number_of-number-requires-clause-here c =
    let at : slice_get c.args.indexes.now.terms.items c.loop-index.index-index ≡ Some (slice_index_or c.as_slice-index-items.result.now c.loop-index.index-index 0) =
    ap (λ l. slice_get l c.loop-index.index-index) (sym c.as_slice-index-items.ensures.value) ∙ some_at c.as_slice-index-items.result.now c.loop-index.index-index 0 c.loop-index-test.true in
    index_here c.args.terms.now.nodes c.args.bits.now (Contains c.args.reached.now) c.requires.bits c.requires.closed c.args.indexes.now.terms.items c.requires.indexes.0 _ (place_of c.args.indexes.now.terms.items c.loop-index.index-index _ at)

pub loop-index-preserved : goal.loop-index-preserved
loop-index-preserved c =
    let at : slice_get c.args.indexes.now.terms.items c.loop-index.index-index ≡ Some (slice_index_or c.as_slice-index-items.result.now c.loop-index.index-index 0) =
    ap (λ l. slice_get l c.loop-index.index-index) (sym c.as_slice-index-items.ensures.value) ∙ some_at c.as_slice-index-items.result.now c.loop-index.index-index 0 c.loop-index-test.true in
    taken_step c.args.terms.now.nodes c.args.bits.now (Contains c.args.reached.now) (assigned_value c.args.terms.now.nodes c.args.bits.now (assigned c.args.assignment.now)) c.args.indexes.now.terms.items c.args.width c.requires.indexes.0
    c.loop-index.index-index _ c.loop-index.numbers.items _ _ c.loop-index.invariant at c.number_of-number.ensures c.in_ok-put.ensures

pub returns : goal.returns
returns c =
    let long = ap length c.as_slice-index-items.ensures.value in
    let over = c.loop-index-test.false in
    let past : length c.args.indexes.now.terms.items ≤ c.loop-index.index-index = omega (arith, long, over) in
    taken_all c.args.terms.now.nodes c.args.bits.now (Contains c.args.reached.now) (assigned_value c.args.terms.now.nodes c.args.bits.now (assigned c.args.assignment.now)) c.args.indexes.now.terms.items c.args.width c.requires.indexes.0 c.loop-index.index-index c.loop-index.numbers.items c.loop-index.invariant past
