use Rattle.smt_session.proofs.PlanSteps.{array_over, step_over}
use Rattle.smt_session.proofs.taking.take_step.Goals as goal

pub returns-then-is_for_array : goal.returns-then-is_for_array
returns-then-is_for_array c =
    array_over c.args.state.now c.terms-terms.result.now c.args.log.now c.args.planned.now c.terms-terms.ensures.terms c.requires.session.stands c.requires.held (rw c.if-is_for_array.true at c.is_for_array.ensures)

pub returns-in-Ok : goal.returns-in-Ok
returns-in-Ok c =
    step_over c.args.state.now c.terms-terms.result.now c.args.log.now c.try_put.new.self c.args.planned.now c.step_for.result c.in-Ok.field-0 c.terms-terms.ensures.terms c.requires.session.stands c.requires.held
    c.step_for.ensures (rw c.if-is_for_array.false at c.is_for_array.ensures) c.in-Ok.ensures
