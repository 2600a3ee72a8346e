use Rattle.std.proofs.Common.{◌≡◌, [], sym, ◌∙◌, subst}
use Rattle.reached_images.specs.Plans.{IsPlan, IsWholePlan}
use Rattle.reached_images.specs.Settled.{AreOwn}
use Rattle.reached_images.proofs.Owning.{own_none}
use Rattle.reached_images.proofs.Whole.{open_acyclic, open_below, reached_held, reached_known, same_reach}
use Rattle.reached_images.proofs.planning.plan_terms.Goals as goal

pub reach-requires-clause-acyclic : goal.reach-requires-clause-acyclic
reach-requires-clause-acyclic c = open_acyclic c.args.terms.now.nodes c.new.result.bits.now c.new.result.plan.now c.len-count.ensures.terms.list

pub reach-requires-clause-within : goal.reach-requires-clause-within
reach-requires-clause-within c = open_below c.args.terms.now.nodes c.new.result.bits.now c.new.result.plan.now c.len-count.ensures.terms.list

pub plan_in_order-requires-clause-held : goal.plan_in_order-requires-clause-held
plan_in_order-requires-clause-held c =
    let r = same_reach c.args.terms.now.nodes c.args.bits.now c.new.result.bits.now c.clear.new.self c.new.result.plan.now c.args.roots.now c.reach.new.reached c.terms.result.now c.new.ensures.bits c.new.ensures.plan c.in_ok-reach.ensures c.terms.ensures.terms in
    reached_held c.args.terms.now.nodes c.args.bits.now c.clear.new.self c.args.roots.now c.terms.result.now c.len-count.ensures.terms.list c.requires.held r

pub plan_in_order-requires-clause-plan : goal.plan_in_order-requires-clause-plan
plan_in_order-requires-clause-plan c = subst (IsPlan c.args.terms.now.nodes c.args.bits.now) (sym c.clear.ensures) tt

pub plan_in_order-requires-clause-order : goal.plan_in_order-requires-clause-order
plan_in_order-requires-clause-order c =
    (same_reach c.args.terms.now.nodes c.args.bits.now c.new.result.bits.now c.clear.new.self c.new.result.plan.now c.args.roots.now c.reach.new.reached c.terms.result.now c.new.ensures.bits c.new.ensures.plan c.in_ok-reach.ensures c.terms.ensures.terms).order

pub returns-clause-plan : goal.returns-clause-plan
returns-clause-plan c = c.in_ok-plan_in_order.ensures.whole (subst (IsWholePlan c.args.terms.now.nodes c.args.bits.now) (sym c.clear.ensures) tt)

pub returns-clause-own : goal.returns-clause-own
returns-clause-own c = c.in_ok-plan_in_order.ensures.own (subst (AreOwn c.args.terms.now c.args.bits.now) (sym c.clear.ensures) (own_none c.args.terms.now c.args.bits.now))

pub returns-clause-roots : goal.returns-clause-roots
returns-clause-roots c =
    let r = same_reach c.args.terms.now.nodes c.args.bits.now c.new.result.bits.now c.clear.new.self c.new.result.plan.now c.args.roots.now c.reach.new.reached c.terms.result.now c.new.ensures.bits c.new.ensures.plan c.in_ok-reach.ensures c.terms.ensures.terms in
    reached_known c.args.terms.now.nodes c.args.bits.now c.clear.new.self c.plan_in_order.new.plan c.args.roots.now c.terms.result.now r c.in_ok-plan_in_order.ensures.order
