use Rattle.std.proofs.Common.{length, refl, sym, ap, ◌∙◌, inl, inr}
use Rattle.smt_terms.specs.Ranks.{is_plain}
use Rattle.bv_rules.proofs.Known.{never}
use Rattle.bv_rewrite.proofs.Following.{grown_none}
use Rattle.reached_images.specs.Plans.{uses_of}
use Rattle.reached_images.specs.Settled.{IsTangled}
use Rattle.reached_images.proofs.Knowing.{later_itself}
use Rattle.reached_images.proofs.Needing.{inner_first, needed_among, plan_undone, terms_undone}
use Rattle.reached_images.proofs.Owning.{became, end_settled, gave_up, own_grown}
use Rattle.reached_images.proofs.Stepping.{plan_grown, plan_images, whole_grown}
use Rattle.reached_images.proofs.Whole.{args_known}
use Rattle.reached_images.proofs.planning.plan_simplified.Goals as goal

pub simplified-requires-clause-images : goal.simplified-requires-clause-images
simplified-requires-clause-images c =
    plan_images c.args.terms.now.nodes c.args.bits.now c.requires.terms.list c.requires.terms.different c.args.plan.now c.requires.plan c.requires.images

pub plan_way-requires-clause-plan : goal.plan_way-requires-clause-plan
plan_way-requires-clause-plan c =
    let is = became c.in_ok-simplified.field-0 c.in-Some.simplified _ _ c.in-Some.is c.in_ok-simplified.ensures in
    plan_grown c.args.terms.now c.simplified.new.terms c.args.bits.now c.args.plan.now c.requires.terms.list is.grown c.requires.plan

pub plan_way-requires-clause-settled : goal.plan_way-requires-clause-settled
plan_way-requires-clause-settled c new =
    let is = became c.in_ok-simplified.field-0 c.in-Some.simplified _ _ c.in-Some.is c.in_ok-simplified.ensures in
    end_settled c.simplified.new.terms.nodes c.args.bits.now c.args.plan.now c.in-Some.simplified.term is.end new

pub plan_way-requires-clause-inner : goal.plan_way-requires-clause-inner
plan_way-requires-clause-inner c =
    let is = became c.in_ok-simplified.field-0 c.in-Some.simplified _ _ c.in-Some.is c.in_ok-simplified.ensures in
    inner_first c.args.term is.start is.rest c.in-Some.simplified.uses.items is.uses is.table

pub returns-then-not-is_plain-clause-kept : goal.returns-then-not-is_plain-clause-kept
returns-then-not-is_plain-clause-kept c e = (refl, refl, λ plain. never (sym c.if-not-is_plain.true ∙ c.is_plain.ensures ∙ ap is_plain c.sort.ensures ∙ plain))

pub returns-in-None-clause-kept : goal.returns-in-None-clause-kept
returns-in-None-clause-kept c e =
    let gone = gave_up c.in_ok-simplified.field-0 _ _ c.in-None.is c.in_ok-simplified.ensures in
    (gone.0, refl, λ plain. inr (record { terms = c.args.terms.now; grown = grown_none c.args.terms.now c.requires.terms; why = inl gone.1 }))

pub returns-then-branch-clause-grown : goal.returns-then-branch-clause-grown
returns-then-branch-clause-grown c e =
    let is = became c.in_ok-simplified.field-0 c.in-Some.simplified _ _ c.in-Some.is c.in_ok-simplified.ensures in
    is.grown

pub returns-then-branch-clause-whole : goal.returns-then-branch-clause-whole
returns-then-branch-clause-whole c e args old =
    let is = became c.in_ok-simplified.field-0 c.in-Some.simplified _ _ c.in-Some.is c.in_ok-simplified.ensures in
    let later = args_known c.args.terms.now c.simplified.new.terms c.args.bits.now c.args.plan.now c.args.plan.now c.args.term is.grown c.requires.held (later_itself c.args.plan.now) args in
    c.in_ok-plan_way.ensures.whole c.if-branch.true later (whole_grown c.args.terms.now c.simplified.new.terms c.args.bits.now c.args.plan.now c.requires.terms.list is.grown old)

pub returns-then-branch-clause-own : goal.returns-then-branch-clause-own
returns-then-branch-clause-own c e h =
    let is = became c.in_ok-simplified.field-0 c.in-Some.simplified _ _ c.in-Some.is c.in_ok-simplified.ensures in
    c.in_ok-plan_way.ensures.own (own_grown c.args.terms.now c.simplified.new.terms c.args.bits.now c.args.plan.now c.requires.terms.list is.grown c.requires.plan h)

pub returns-then-branch-clause-needed : goal.returns-then-branch-clause-needed
returns-then-branch-clause-needed c e =
    let is = became c.in_ok-simplified.field-0 c.in-Some.simplified _ _ c.in-Some.is c.in_ok-simplified.ensures in
    needed_among (length c.args.terms.now.nodes) c.simplified.new.terms.nodes c.in-Some.simplified.uses.items (uses_of c.plan_way.new.plan) (c.in_ok-plan_way.ensures.uses c.if-branch.true) is.needed

pub returns-clause-kept : goal.returns-clause-kept
returns-clause-kept c e =
    let is = became c.in_ok-simplified.field-0 c.in-Some.simplified _ _ c.in-Some.is c.in_ok-simplified.ensures in
    let back = terms_undone c.args.terms.now c.simplified.new.terms c.cut.new.self c.len-count.result is.grown c.len-count.ensures.length c.cut.ensures in
    let same = plan_undone c.args.plan.now c.plan_way.new.plan c.cut-2.new.self (length c.steps.result.now) c.in_ok-plan_way.ensures.later (ap length c.steps.ensures) c.cut-2.ensures in
    let tangled : IsTangled c.args.terms.now c.args.bits.now c.args.plan.now c.args.term = record { terms = c.simplified.new.terms; becomes = c.in-Some.simplified; is = is; why = c.in_ok-plan_way.ensures.tangled c.if-branch.false } in
    (back, same, λ plain. inr (record { terms = c.args.terms.now; grown = grown_none c.args.terms.now c.requires.terms; why = inr tangled }))
