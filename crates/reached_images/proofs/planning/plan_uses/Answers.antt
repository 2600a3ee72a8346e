use Rattle.reached_images.proofs.Knowing.{later_itself}
use Rattle.std.proofs.Common.{refl}
use Rattle.bv_rules.specs.declared.rule.Rule.TheVariants.{Inner}
use Rattle.reached_images.proofs.Needing.{added_is, later_step, used_begun, used_ended, used_step}
use Rattle.reached_images.proofs.Owning.{from_begun, from_step, known_of, own_used, way_blocked}
use Rattle.reached_images.proofs.Whole.{way_begun, way_ended, way_step, whole_way_step}
use Rattle.reached_images.proofs.planning.plan_uses.Goals as goal

pub uses-init : goal.uses-init
uses-init c = (
  later_itself c.args.plan.now,
  λ nodes before last h l w k. way_begun nodes c.args.bits.now before c.args.plan.now c.args.term c.args.uses.now last l w h k,
  λ nodes before last h l w k f a o. o,
  used_begun c.args.uses.now c.args.plan.now,
  from_begun c.args.plan.now c.args.term c.args.uses.now,
  λ w o. o,
)

pub uses-preserved : goal.uses-preserved
uses-preserved c = (
  later_step c.args.bits.now c.args.plan.now c.uses.plan c.add.new.self _ c.uses.invariant.0 c.in_ok-add.ensures.ok,
  λ nodes before last h l w k.
      way_step nodes c.args.bits.now before c.args.plan.now c.args.term c.args.uses.now last l w c.uses.plan c.add.new.self c.uses.place _ c.from_at.result c.uses-test.true c.uses.auto.place
      (c.uses.invariant.1 nodes before last h l w k) c.from_at.ensures c.in_ok-add.ensures.ok,
  λ nodes before last h l w k f a.
      whole_way_step nodes c.args.bits.now before c.args.plan.now c.args.term c.args.uses.now last l w f a c.uses.plan c.add.new.self c.uses.place _ c.from_at.result c.uses-test.true c.uses.auto.place
      (c.uses.invariant.1 nodes before last h l w k) c.from_at.ensures c.in_ok-add.ensures.ok (c.uses.invariant.2 nodes before last h l w k f a),
  used_step c.args.bits.now c.args.uses.now c.uses.plan c.add.new.self c.uses.place _ c.from_at.result c.in_ok-add.field-0 c.uses-test.true c.uses.auto.place
      c.uses.invariant.3 c.in_ok-add.ensures.ok c.in_ok-add.ensures.added c.if-not-branch.false,
  from_step c.args.plan.now c.args.term c.args.uses.now c.uses.plan c.add.new.self c.uses.place _ c.from_at.result c.uses-test.true c.uses.auto.place c.uses.invariant.4 c.from_at.ensures
      (added_is c.args.bits.now c.uses.plan c.add.new.self _ c.in_ok-add.field-0 c.in_ok-add.ensures.ok c.in_ok-add.ensures.added c.if-not-branch.false),
  λ w o. own_used w c.args.bits.now c.uses.plan c.add.new.self _ _ refl c.in_ok-add.ensures.ok (c.uses.invariant.5 w o),
)

pub returns-clause-planned : goal.returns-clause-planned
returns-clause-planned c e nodes before last h l w k =
    way_ended nodes c.args.bits.now before c.args.plan.now c.args.term c.args.uses.now last l w c.uses.plan c.uses.place c.uses-test.false (c.uses.invariant.1 nodes before last h l w k)

pub returns-clause-uses : goal.returns-clause-uses
returns-clause-uses c e = used_ended c.args.uses.now c.uses.plan c.uses.place c.uses-test.false c.uses.invariant.3

pub returns-then-not-branch-clause-own : goal.returns-then-not-branch-clause-own
returns-then-not-branch-clause-own c w o = own_used w c.args.bits.now c.uses.plan c.add.new.self _ _ refl c.in_ok-add.ensures.ok (c.uses.invariant.5 w o)

pub returns-then-not-branch-clause-blocked : goal.returns-then-not-branch-clause-blocked
returns-then-not-branch-clause-blocked c e nodes =
    way_blocked nodes c.args.bits.now c.args.plan.now c.uses.plan c.args.term c.args.uses.now c.uses.place (record { rule = Inner; to = 0 }) c.from_at.result c.uses-test.true c.uses.auto.place c.uses.invariant.4 c.from_at.ensures
    (known_of c.args.bits.now c.uses.plan c.from_at.result c.in_ok-add.field-0 c.in_ok-add.ensures.added c.if-not-branch.true)
