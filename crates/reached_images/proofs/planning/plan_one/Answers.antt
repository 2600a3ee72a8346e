use Rattle.std.proofs.Common.{◌≡◌, sym, ◌∙◌}
use Rattle.bv_rules.proofs.Known.{never}
use Rattle.reached_images.specs.Plans.{is_known, IsKnown}
use Rattle.reached_images.proofs.Owning.{one_kept, IsOneMore}
use Rattle.reached_images.proofs.planning.plan_one.Goals as goal

pub returns-then-branch-clause-whole : goal.returns-then-branch-clause-whole
returns-then-branch-clause-whole c old =
    let new : IsKnown c.args.bits.now c.args.plan.now c.args.term → ⊥ = λ k. never (sym c.if-has.false ∙ c.has.ensures ∙ (λ i. is_known (c.new.ensures.bits i) (c.new.ensures.plan i) c.args.term) ∙ k) in
    c.in_ok-plan_simplified.ensures.whole c.if-branch.true (c.requires.arguments new) old

pub returns-then-branch-clause-own : goal.returns-then-branch-clause-own
returns-then-branch-clause-own c = c.in_ok-plan_simplified.ensures.own c.if-branch.true

pub returns : goal.returns
returns c =
    let one : IsOneMore c.args.terms.now c.plan_simplified.new.terms c.args.bits.now c.args.plan.now c.add.new.self c.args.term =
    one_kept c.args.terms.now c.plan_simplified.new.terms c.args.bits.now c.args.plan.now c.plan_simplified.new.plan c.add.new.self c.args.term c.requires.terms c.requires.held c.requires.plan c.requires.arguments
    (c.in_ok-plan_simplified.ensures.kept c.if-branch.false) c.in_ok-add.ensures.ok in
    record { grown = one.grown; planned = one.planned; whole = one.whole; own = one.own; needed = one.needed }
