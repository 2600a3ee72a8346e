use Rattle.std.proofs.Common.{◌≡◌, Some, get_or, length, sym, ap, ◌∙◌, subst, arith}
use Rattle.std.specs.Prelude.{Contains, slice_get, ◌≤◌}
use Rattle.std.proofs.lemmas.Option.{slice_get-get_or}
use Rattle.access_walk.proofs.Joined.{AreWatchesTo, watches_none, watches_step, watches_all}
use Rattle.access_walk.proofs.witnesses.watches_of.Goals as goal

pub loop-term-init : goal.loop-term-init
loop-term-init c = subst (AreWatchesTo c.args.terms.now.nodes c.args.bits.now (Contains c.args.reached.now) c.args.reached.now 0) (sym c.new-watches.ensures.items) (watches_none c.args.terms.now.nodes c.args.bits.now (Contains c.args.reached.now) c.args.reached.now)

pub loop-term-preserved : goal.loop-term-preserved
loop-term-preserved c =
    let at : slice_get c.args.reached.now c.loop-term.term-index ≡ Some (get_or c.terms-term-items.result.now c.loop-term.term-index 0) =
    ap (λ l. slice_get l c.loop-term.term-index) (sym c.terms-term-items.ensures.terms) ∙ slice_get-get_or c.terms-term-items.result.now c.loop-term.term-index 0 c.loop-term-test.true in
    watches_step c.args.terms.now.nodes c.args.bits.now (Contains c.args.reached.now) c.args.reached.now c.loop-term.term-index _ c.loop-term.watches.items _ _ c.loop-term.invariant at c.in_ok-found.ensures c.in_ok-put.ensures

pub returns : goal.returns
returns c =
    let long = ap length c.terms-term-items.ensures.terms in
    let over = c.loop-term-test.false in
    let past : length c.args.reached.now ≤ c.loop-term.term-index = omega (arith, long, over) in
    watches_all c.args.terms.now.nodes c.args.bits.now (Contains c.args.reached.now) c.args.reached.now (λ t h. h) (λ t h. h) c.loop-term.term-index c.loop-term.watches.items c.loop-term.invariant past
