use Rattle.std.proofs.Common.{◌≡◌, ◌≤◌, length, sym, ap, ◌∙◌, arith}
use Rattle.std.specs.Prelude.{Some, slice_get, slice_index_or}
use Rattle.access_walk.proofs.Lists.{some_at, place_of}
use Rattle.access_walk.proofs.Taken.{widths_step, widths_all}
use Rattle.access_walk.proofs.spares.filled_widths.Goals as goal

pub width_of-requires : goal.width_of-requires
width_of-requires c =
    let at : slice_get c.args.reached.now c.loop-term.term-index ≡ Some (slice_index_or c.terms-term-items.result.now c.loop-term.term-index 0) =
    ap (λ l. slice_get l c.loop-term.term-index) (sym c.terms-term-items.ensures.terms) ∙ some_at c.terms-term-items.result.now c.loop-term.term-index 0 c.loop-term-test.true in
    c.requires.held _ (place_of c.args.reached.now c.loop-term.term-index _ at)

pub loop-term-preserved : goal.loop-term-preserved
loop-term-preserved c =
    let at : slice_get c.args.reached.now c.loop-term.term-index ≡ Some (slice_index_or c.terms-term-items.result.now c.loop-term.term-index 0) =
    ap (λ l. slice_get l c.loop-term.term-index) (sym c.terms-term-items.ensures.terms) ∙ some_at c.terms-term-items.result.now c.loop-term.term-index 0 c.loop-term-test.true in
    widths_step c.args.terms.now.nodes c.args.bits.now c.args.reached.now c.loop-term.term-index _ c.loop-term.found.items _ _ c.loop-term.invariant at c.width_of.ensures c.in_ok-put_width.ensures

pub returns : goal.returns
returns c =
    let long = ap length c.terms-term-items.ensures.terms in
    let over = c.loop-term-test.false in
    let past : length c.args.reached.now ≤ c.loop-term.term-index = omega (arith, long, over) in
    widths_all c.args.terms.now.nodes c.args.bits.now c.args.reached.now c.loop-term.term-index c.loop-term.found.items c.loop-term.invariant past
