use Rattle.std.proofs.Common.{◌≡◌, ◌≤◌, length, sym, ap, ◌∙◌, arith}
use Rattle.std.specs.Prelude.{Some, slice_get, slice_index_or}
use Rattle.access_walk.proofs.Lists.{some_at}
use Rattle.access_walk.proofs.Taken.{indexes_step, indexes_all}
use Rattle.access_walk.proofs.spares.index_terms.Goals as goal

pub loop-term-preserved : goal.loop-term-preserved
loop-term-preserved c =
    let at : slice_get c.args.reached.now c.loop-term.term-index ≡ Some (slice_index_or c.terms-term-items.result.now c.loop-term.term-index 0) =
    ap (λ l. slice_get l c.loop-term.term-index) (sym c.terms-term-items.ensures.terms) ∙ some_at c.terms-term-items.result.now c.loop-term.term-index 0 c.loop-term-test.true in
    indexes_step c.args.terms.now.nodes c.args.bits.now c.args.reached.now c.loop-term.term-index _ c.loop-term.found.items _ _ c.loop-term.invariant at c.index_of.ensures c.in_ok-put.ensures

pub returns : goal.returns
returns c =
    let long = ap length c.terms-term-items.ensures.terms in
    let over = c.loop-term-test.false in
    let past : length c.args.reached.now ≤ c.loop-term.term-index = omega (arith, long, over) in
    indexes_all c.args.terms.now.nodes c.args.bits.now c.args.reached.now c.loop-term.term-index c.loop-term.found.items c.loop-term.invariant past
