use Rattle.smt_session.proofs.Ordered.{order_taken}
use Rattle.smt_session.proofs.PlanSteps.{encoded, plan_held, roots_taken}
use Rattle.smt_session.proofs.taking.rewrite.Goals as goal

pub take_plan-requires-clause-held : goal.take_plan-requires-clause-held
take_plan-requires-clause-held c =
    rw (c.steps.ensures, c.in_ok-made.ensures.same, c.as_slice.ensures.value)
    (plan_held c.args.state.now.terms c.in_ok-made.made.items c.args.workspace.now.log c.args.roots.now c.plan_check.new.plan c.in_ok-made.ensures.planned)

pub take_plan-requires-clause-plan : goal.take_plan-requires-clause-plan
take_plan-requires-clause-plan c = rw (c.steps.ensures, c.in_ok-made.ensures.same, c.as_slice.ensures.value) c.in_ok-made.ensures.planned.plan

pub take_plan-requires-clause-own : goal.take_plan-requires-clause-own
take_plan-requires-clause-own c = rw (c.steps.ensures, c.in_ok-made.ensures.same, c.as_slice.ensures.value) c.in_ok-made.ensures.planned.own

pub returns-clause-encodes : goal.returns-clause-encodes
returns-clause-encodes c =
    encoded c.args.state.now c.take_plan.new.state c.args.workspace.now.log c.take_plan.new.log c.in_ok-made.made.items c.args.roots.now c.plan_check.new.plan c.requires.session.stands c.in_ok-made.ensures.planned
    (rw (c.steps.ensures, c.in_ok-made.ensures.same, c.as_slice.ensures.value) at c.in_ok-take_plan.ensures.taken) (rw (c.in_ok-made.ensures.same, c.as_slice.ensures.value) at c.in_ok-take_plan.ensures.made)

pub returns-clause-roots : goal.returns-clause-roots
returns-clause-roots c =
    roots_taken c.args.state.now c.take_plan.new.state c.args.workspace.now.log c.take_plan.new.log c.in_ok-made.made.items c.args.roots.now c.plan_check.new.plan c.requires.session.stands c.in_ok-made.ensures.planned
    (rw (c.steps.ensures, c.in_ok-made.ensures.same, c.as_slice.ensures.value) at c.in_ok-take_plan.ensures.taken) (rw (c.in_ok-made.ensures.same, c.as_slice.ensures.value) at c.in_ok-take_plan.ensures.made)
    c.requires.held c.requires.plain

pub returns-clause-order : goal.returns-clause-order
returns-clause-order c =
    order_taken c.args.state.now c.take_plan.new.state c.args.workspace.now.log c.take_plan.new.log c.in_ok-made.made.items c.args.roots.now c.plan_check.new.plan c.requires.session c.in_ok-made.ensures.planned
    (rw (c.steps.ensures, c.in_ok-made.ensures.same, c.as_slice.ensures.value) at c.in_ok-take_plan.ensures.taken) (rw (c.in_ok-made.ensures.same, c.as_slice.ensures.value) at c.in_ok-take_plan.ensures.made) c.requires.order
