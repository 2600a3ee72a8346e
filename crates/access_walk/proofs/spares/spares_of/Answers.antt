use Rattle.std.proofs.Common.{◌≡◌, ◌≤◌, length, sym, ap, ◌∙◌, arith}
use Rattle.std.specs.Prelude.{Some, Contains, slice_get, slice_index_or}
use Rattle.bit_blast.specs.Assigned.{assigned}
use Rattle.access_tables.specs.Held.{assigned_value}
use Rattle.access_walk.proofs.Lists.{some_at, place_of}
use Rattle.access_walk.proofs.Taken.{spares_step, are_spare, width_wide}
use Rattle.access_walk.proofs.spares.spares_of.Goals as goal

pub spare_of-requires-clause-wide : goal.spare_of-requires-clause-wide
spare_of-requires-clause-wide c =
    let at : slice_get c.args.indexes.now.widths.items c.loop-width.width-index ≡ Some (slice_index_or c.as_slice-width-items.result.now c.loop-width.width-index 0) =
    ap (λ l. slice_get l c.loop-width.width-index) (sym c.as_slice-width-items.ensures.value) ∙ some_at c.as_slice-width-items.result.now c.loop-width.width-index 0 c.loop-width-test.true in
    let w = c.requires.indexes.1.each _ (place_of c.args.indexes.now.widths.items c.loop-width.width-index _ at) in
    width_wide c.args.terms.now.nodes c.len-count.ensures.terms.list c.args.bits.now (Contains c.args.reached.now) c.requires.bits w.0 _ w.1 w.2

pub loop-width-preserved : goal.loop-width-preserved
loop-width-preserved c =
    let at : slice_get c.args.indexes.now.widths.items c.loop-width.width-index ≡ Some (slice_index_or c.as_slice-width-items.result.now c.loop-width.width-index 0) =
    ap (λ l. slice_get l c.loop-width.width-index) (sym c.as_slice-width-items.ensures.value) ∙ some_at c.as_slice-width-items.result.now c.loop-width.width-index 0 c.loop-width-test.true in
    spares_step c.args.terms.now.nodes c.args.bits.now (Contains c.args.reached.now) (assigned_value c.args.terms.now.nodes c.args.bits.now (assigned c.args.assignment.now)) c.args.indexes.now.widths.items c.loop-width.width-index _ c.loop-width.spares.items _ _
    c.loop-width.invariant at c.in_ok-spare.ensures c.in_ok-put.ensures

pub returns : goal.returns
returns c =
    let long = ap length c.as_slice-width-items.ensures.value in
    let over = c.loop-width-test.false in
    let past : length c.args.indexes.now.widths.items ≤ c.loop-width.width-index = omega (arith, long, over) in
    are_spare c.args.terms.now.nodes c.args.bits.now (Contains c.args.reached.now) (assigned_value c.args.terms.now.nodes c.args.bits.now (assigned c.args.assignment.now)) c.args.indexes.now.widths.items c.requires.indexes.1 c.loop-width.width-index c.loop-width.spares.items c.loop-width.invariant past
