use Rattle.std.proofs.Common.{[], sym, subst}
use Rattle.smt_terms.specs.Bits.{image_in}
use Rattle.reached_images.proofs.Owning.{own_none}
use Rattle.reached_images.proofs.Stepping.{images_grown}
use Rattle.reached_images.proofs.Whole.{terms_begun, terms_done, terms_held, terms_next, ArePlannedTo}
use Rattle.reached_images.proofs.planning.plan_each.Goals as goal

pub terms-init : goal.terms-init
terms-init c =
    subst (λ l. ArePlannedTo c.args.terms.now c.args.terms.now c.args.bits.now [] l c.args.order.now 0) (sym c.clear.ensures)
    (terms_begun c.args.terms.now c.args.bits.now [] c.args.order.now c.len-count.ensures.terms tt)

pub plan_term-requires-clause-held : goal.plan_term-requires-clause-held
plan_term-requires-clause-held c = terms_held c.args.terms.now c.terms.terms c.args.order.now c.terms.term-index 0 c.requires.held c.terms-test.true c.terms.invariant.grown

pub plan_term-requires-clause-images : goal.plan_term-requires-clause-images
plan_term-requires-clause-images c = images_grown c.args.terms.now c.terms.terms (image_in c.args.bits.now) c.len-count.ensures.terms.list c.terms.invariant.grown c.requires.images

pub terms-preserved : goal.terms-preserved
terms-preserved c =
    terms_next c.args.terms.now c.terms.terms c.plan_term.new.terms c.args.bits.now [] c.terms.plan c.plan_term.new.plan c.args.order.now c.terms.term-index 0
    c.requires.held c.terms.invariant c.terms-test.true c.in_ok-plan_term.ensures.grown c.in_ok-plan_term.ensures.planned c.in_ok-plan_term.ensures.whole c.in_ok-plan_term.ensures.own c.in_ok-plan_term.ensures.needed

pub returns-clause-whole : goal.returns-clause-whole
returns-clause-whole c order = c.terms.invariant.whole order tt

pub returns-clause-own : goal.returns-clause-own
returns-clause-own c = c.terms.invariant.own (own_none c.args.terms.now c.args.bits.now)

pub returns-clause-order : goal.returns-clause-order
returns-clause-order c = terms_done c.args.terms.now c.terms.terms c.args.bits.now [] c.terms.plan c.args.order.now c.terms.term-index c.terms.invariant c.terms-test.false
