use Rattle.std.proofs.Common.{◌≡◌, length, sym, ap, ◌∙◌, subst}
use Rattle.std.specs.Prelude.{All}
use Rattle.std.specs.List.{filter_map}
use Rattle.term_reach.specs.Reach.{IsAcyclic, IsReach, LeadsBelow}
use Rattle.reached_images.specs.Plans.{planned_in, IsKnown, IsPlan}
use Rattle.reached_images.proofs.Leading.{needs_acyclic, needs_below, needs_same}
use Rattle.reached_images.proofs.Picking.{picked, picked_known, picked_plan, roots_picked}
use Rattle.reached_images.proofs.needed.needed_terms.Goals as goal

pub reach-requires-clause-acyclic : goal.reach-requires-clause-acyclic
reach-requires-clause-acyclic c =
    needs_same IsAcyclic c.args.terms.now.nodes c.args.bits.now c.new.result.bits.now c.args.plan.now c.new.result.plan.now c.new.ensures.bits c.new.ensures.plan
    (needs_acyclic c.args.terms.now.nodes c.args.bits.now c.args.plan.now c.requires.plan c.len-count.ensures.terms.list)

pub reach-requires-clause-within : goal.reach-requires-clause-within
reach-requires-clause-within c =
    needs_same (LeadsBelow (length c.args.terms.now.nodes)) c.args.terms.now.nodes c.args.bits.now c.new.result.bits.now c.args.plan.now c.new.result.plan.now c.new.ensures.bits c.new.ensures.plan
    (needs_below c.args.terms.now.nodes c.args.bits.now c.args.plan.now c.requires.plan c.len-count.ensures.terms.list)

pub returns-clause-plan : goal.returns-clause-plan
returns-clause-plan c =
    let r = needs_same (λ f. IsReach f c.args.roots.now c.reach.new.reached) c.args.terms.now.nodes c.new.result.bits.now c.args.bits.now c.new.result.plan.now c.args.plan.now (sym c.new.ensures.bits) (sym c.new.ensures.plan) c.in_ok-reach.ensures in
    let same : c.in_ok-steps.steps.items ≡ picked c.args.plan.now c.reach.new.reached = c.in_ok-steps.ensures ∙ ap (filter_map (planned_in c.args.plan.now)) c.terms.ensures.terms in
    subst (IsPlan c.args.terms.now.nodes c.args.bits.now) (sym same)
    (picked_plan c.args.terms.now.nodes c.args.bits.now c.args.plan.now c.requires.plan c.len-count.ensures.terms.list c.requires.images c.args.roots.now c.reach.new.reached c.requires.known r)

pub returns-clause-roots : goal.returns-clause-roots
returns-clause-roots c =
    let r = needs_same (λ f. IsReach f c.args.roots.now c.reach.new.reached) c.args.terms.now.nodes c.new.result.bits.now c.args.bits.now c.new.result.plan.now c.args.plan.now (sym c.new.ensures.bits) (sym c.new.ensures.plan) c.in_ok-reach.ensures in
    let same : c.in_ok-steps.steps.items ≡ picked c.args.plan.now c.reach.new.reached = c.in_ok-steps.ensures ∙ ap (filter_map (planned_in c.args.plan.now)) c.terms.ensures.terms in
    subst (λ l. All (IsKnown c.args.bits.now l) c.args.roots.now) (sym same)
    (roots_picked c.args.terms.now.nodes c.args.bits.now c.args.plan.now c.requires.plan c.len-count.ensures.terms.list c.requires.images c.args.roots.now c.reach.new.reached c.requires.known r)

pub returns-clause-known : goal.returns-clause-known
returns-clause-known c =
    let r = needs_same (λ f. IsReach f c.args.roots.now c.reach.new.reached) c.args.terms.now.nodes c.new.result.bits.now c.args.bits.now c.new.result.plan.now c.args.plan.now (sym c.new.ensures.bits) (sym c.new.ensures.plan) c.in_ok-reach.ensures in
    let same : c.in_ok-steps.steps.items ≡ picked c.args.plan.now c.reach.new.reached = c.in_ok-steps.ensures ∙ ap (filter_map (planned_in c.args.plan.now)) c.terms.ensures.terms in
    subst (λ l. All (IsKnown c.args.bits.now l) c.reach.new.reached) (sym same)
    (picked_known c.args.terms.now.nodes c.args.bits.now c.args.plan.now c.requires.plan c.len-count.ensures.terms.list c.requires.images c.args.roots.now c.reach.new.reached c.requires.known r)
