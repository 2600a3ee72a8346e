use Rattle.std.proofs.Common.{◌≡◌, ◌<◌, [], ◌∷◌, length, sym, ◌∙◌, subst, arith, refl}
use Rattle.std.specs.Prelude.{All}
use Rattle.smt_terms.specs.Bits.{image_in}
use Rattle.smt_terms.specs.Terms.{AreTerms, TermsValue}
use Rattle.term_reach.specs.Reach.{IsReach}
use Rattle.bv_rules.specs.Matches.{AreImages}
use Rattle.bv_rules.proofs.Known.{never}
use Rattle.bv_rewrite.specs.Simplifying.{AreNeeded, IsGrown}
use Rattle.reached_images.specs.Plans.{is_known, open_arguments, uses_of, IsKnown, IsLater, IsPlan, IsPlannedBy, IsWholePlan}
use Rattle.reached_images.specs.Settled.{AreOwn}
use Rattle.reached_images.proofs.Whole.{one_held, open_acyclic, open_below, reached_held, reached_known, same_reach}
use Rattle.reached_images.proofs.planning.plan_term.Goals as goal

pub returns-then-branch-clause-whole : goal.returns-then-branch-clause-whole
returns-then-branch-clause-whole c ask old =
    let new : IsKnown c.args.bits.now c.args.plan.now c.args.term → ⊥ = λ k. never (sym c.if-has.false ∙ c.has.ensures ∙ (λ i. is_known (c.new.ensures.bits i) (c.new.ensures.plan i) c.args.term) ∙ k) in
    c.in_ok-plan_simplified.ensures.whole c.if-branch.true (ask new) old

pub returns-then-branch-clause-own : goal.returns-then-branch-clause-own
returns-then-branch-clause-own c = c.in_ok-plan_simplified.ensures.own c.if-branch.true

pub reach-requires-clause-acyclic : goal.reach-requires-clause-acyclic
reach-requires-clause-acyclic c =
    let kept = c.in_ok-plan_simplified.ensures.kept c.if-branch.false in
    open_acyclic c.plan_simplified.new.terms.nodes c.new-2.result.bits.now c.new-2.result.plan.now (subst AreTerms (sym kept.0) c.requires.terms).list

pub reach-requires-clause-within : goal.reach-requires-clause-within
reach-requires-clause-within c =
    let kept = c.in_ok-plan_simplified.ensures.kept c.if-branch.false in
    open_below c.plan_simplified.new.terms.nodes c.new-2.result.bits.now c.new-2.result.plan.now (subst AreTerms (sym kept.0) c.requires.terms).list

pub plan_in_order-requires-clause-terms : goal.plan_in_order-requires-clause-terms
plan_in_order-requires-clause-terms c =
    let kept = c.in_ok-plan_simplified.ensures.kept c.if-branch.false in
    subst AreTerms (sym kept.0) c.requires.terms

pub plan_in_order-requires-clause-held : goal.plan_in_order-requires-clause-held
plan_in_order-requires-clause-held c =
    let kept = c.in_ok-plan_simplified.ensures.kept c.if-branch.false in
    let v = c.plan_simplified.new.terms in
    let r = same_reach v.nodes c.args.bits.now c.new-2.result.bits.now c.plan_simplified.new.plan c.new-2.result.plan.now (c.args.term ∷ []) c.reach.new.reached c.terms.result.now c.new-2.ensures.bits c.new-2.ensures.plan c.in_ok-reach.ensures c.terms.ensures.terms in
    reached_held v.nodes c.args.bits.now c.plan_simplified.new.plan (c.args.term ∷ []) c.terms.result.now (subst AreTerms (sym kept.0) c.requires.terms).list
    (one_held v.nodes c.args.term (subst (λ (w : TermsValue). c.args.term < length w.nodes) (sym kept.0) c.requires.held)) r

pub plan_in_order-requires-clause-images : goal.plan_in_order-requires-clause-images
plan_in_order-requires-clause-images c =
    let kept = c.in_ok-plan_simplified.ensures.kept c.if-branch.false in
    subst (λ (v : TermsValue). AreImages v.nodes (image_in c.args.bits.now)) (sym kept.0) c.requires.images

pub plan_in_order-requires-clause-plan : goal.plan_in_order-requires-clause-plan
plan_in_order-requires-clause-plan c =
    let kept = c.in_ok-plan_simplified.ensures.kept c.if-branch.false in
    subst (λ (v : TermsValue). IsPlan v.nodes c.args.bits.now c.plan_simplified.new.plan) (sym kept.0) (subst (IsPlan c.args.terms.now.nodes c.args.bits.now) (sym kept.1) c.requires.plan)

pub plan_in_order-requires-clause-order : goal.plan_in_order-requires-clause-order
plan_in_order-requires-clause-order c =
    (same_reach c.plan_simplified.new.terms.nodes c.args.bits.now c.new-2.result.bits.now c.plan_simplified.new.plan c.new-2.result.plan.now (c.args.term ∷ []) c.reach.new.reached c.terms.result.now c.new-2.ensures.bits c.new-2.ensures.plan c.in_ok-reach.ensures c.terms.ensures.terms).order

pub returns-clause-grown : goal.returns-clause-grown
returns-clause-grown c =
    let kept = c.in_ok-plan_simplified.ensures.kept c.if-branch.false in
    subst (λ v. IsGrown v c.plan_in_order.new.terms) kept.0 c.in_ok-plan_in_order.ensures.grown

pub returns-clause-planned : goal.returns-clause-planned
returns-clause-planned c =
    let kept = c.in_ok-plan_simplified.ensures.kept c.if-branch.false in
    let r = same_reach c.plan_simplified.new.terms.nodes c.args.bits.now c.new-2.result.bits.now c.plan_simplified.new.plan c.new-2.result.plan.now (c.args.term ∷ []) c.reach.new.reached c.terms.result.now c.new-2.ensures.bits c.new-2.ensures.plan c.in_ok-reach.ensures c.terms.ensures.terms in
    let known = reached_known c.plan_simplified.new.terms.nodes c.args.bits.now c.plan_simplified.new.plan c.plan_in_order.new.plan (c.args.term ∷ []) c.terms.result.now r c.in_ok-plan_in_order.ensures.order in
    record {
      plan = c.in_ok-plan_in_order.ensures.plan.0;
      later = subst (λ l. IsLater l c.plan_in_order.new.plan) kept.1 c.in_ok-plan_in_order.ensures.plan.1;
      known = known 0 0 (omega arith);
    }

pub returns-clause-whole : goal.returns-clause-whole
returns-clause-whole c ask old =
    let kept = c.in_ok-plan_simplified.ensures.kept c.if-branch.false in
    c.in_ok-plan_in_order.ensures.whole
    (subst (λ (v : TermsValue). IsWholePlan v.nodes c.args.bits.now c.plan_simplified.new.plan) (sym kept.0) (subst (IsWholePlan c.args.terms.now.nodes c.args.bits.now) (sym kept.1) old))

pub returns-clause-own : goal.returns-clause-own
returns-clause-own c old =
    let kept = c.in_ok-plan_simplified.ensures.kept c.if-branch.false in
    c.in_ok-plan_in_order.ensures.own (subst (λ v. AreOwn v c.args.bits.now c.plan_simplified.new.plan) (sym kept.0) (subst (AreOwn c.args.terms.now c.args.bits.now) (sym kept.1) old))

pub returns-clause-needed : goal.returns-clause-needed
returns-clause-needed c =
    let kept = c.in_ok-plan_simplified.ensures.kept c.if-branch.false in
    subst (λ (v : TermsValue). AreNeeded (length v.nodes) c.plan_in_order.new.terms.nodes (uses_of c.plan_in_order.new.plan)) kept.0 c.in_ok-plan_in_order.ensures.needed
