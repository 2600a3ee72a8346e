use Rattle.std.proofs.Common.{◌≡◌, ◌≤◌, length, sym, ap, ◌∙◌, subst, arith}
use Rattle.std.specs.Prelude.{Some, Contains, slice_get, slice_index_or}
use Rattle.access_walk.proofs.Lists.{some_at}
use Rattle.access_walk.proofs.Calling.{AreApplicationsTo, applications_none, applications_step, applications_all}
use Rattle.access_walk.proofs.congruence.applications_of.Goals as goal

pub loop-term-init : goal.loop-term-init
loop-term-init c = subst (AreApplicationsTo c.args.terms.now.nodes c.args.bits.now (Contains c.args.reached.now) c.args.reached.now 0) (sym c.new-found.ensures.items) (applications_none c.args.terms.now.nodes c.args.bits.now (Contains c.args.reached.now) c.args.reached.now)

pub loop-term-preserved : goal.loop-term-preserved
loop-term-preserved c =
    let at : slice_get c.args.reached.now c.loop-term.term-index ≡ Some (slice_index_or c.terms-term-items.result.now c.loop-term.term-index 0) =
    ap (λ l. slice_get l c.loop-term.term-index) (sym c.terms-term-items.ensures.terms) ∙ some_at c.terms-term-items.result.now c.loop-term.term-index 0 c.loop-term-test.true in
    applications_step c.args.terms.now.nodes c.args.bits.now (Contains c.args.reached.now) c.args.reached.now c.loop-term.term-index _ c.loop-term.found.items _ _ c.loop-term.invariant at c.application_at.ensures c.in_ok-put.ensures

pub returns : goal.returns
returns c =
    let long = ap length c.terms-term-items.ensures.terms in
    let over = c.loop-term-test.false in
    let past : length c.args.reached.now ≤ c.loop-term.term-index = omega (arith, long, over) in
    applications_all c.args.terms.now.nodes c.args.bits.now (Contains c.args.reached.now) c.args.reached.now (λ t h. h) c.loop-term.term-index c.loop-term.found.items c.loop-term.invariant past
