use Rattle.smt_terms.specs.Bits.{image_in}
use Rattle.reached_images.proofs.Stepping.{images_grown}
use Rattle.reached_images.proofs.Whole.{terms_arguments, terms_begun, terms_done, terms_held, terms_next}
use Rattle.reached_images.proofs.planning.plan_in_order.Goals as goal

pub terms-init : goal.terms-init
terms-init c = terms_begun c.args.terms.now c.args.bits.now c.args.plan.now c.args.order.now c.requires.terms c.requires.plan

pub plan_one-requires-clause-held : goal.plan_one-requires-clause-held
plan_one-requires-clause-held c = terms_held c.args.terms.now c.terms.terms c.args.order.now c.terms.term-index 0 c.requires.held c.terms-test.true c.terms.invariant.grown

pub plan_one-requires-clause-images : goal.plan_one-requires-clause-images
plan_one-requires-clause-images c = images_grown c.args.terms.now c.terms.terms (image_in c.args.bits.now) c.requires.terms.list c.terms.invariant.grown c.requires.images

pub plan_one-requires-clause-arguments : goal.plan_one-requires-clause-arguments
plan_one-requires-clause-arguments c = terms_arguments c.args.terms.now c.terms.terms c.args.bits.now c.args.plan.now c.terms.plan c.args.order.now c.terms.term-index 0 c.requires.held c.requires.order c.terms.invariant c.terms-test.true

pub terms-preserved : goal.terms-preserved
terms-preserved c =
    terms_next c.args.terms.now c.terms.terms c.plan_one.new.terms c.args.bits.now c.args.plan.now c.terms.plan c.plan_one.new.plan c.args.order.now c.terms.term-index 0
    c.requires.held c.terms.invariant c.terms-test.true c.in_ok-plan_one.ensures.grown c.in_ok-plan_one.ensures.planned (λ args. c.in_ok-plan_one.ensures.whole) c.in_ok-plan_one.ensures.own c.in_ok-plan_one.ensures.needed

pub returns-clause-whole : goal.returns-clause-whole
returns-clause-whole c = c.terms.invariant.whole c.requires.order

pub returns-clause-order : goal.returns-clause-order
returns-clause-order c = terms_done c.args.terms.now c.terms.terms c.args.bits.now c.args.plan.now c.terms.plan c.args.order.now c.terms.term-index c.terms.invariant c.terms-test.false
