use Rattle.smt_build.specs.Steps.{step}
use Rattle.smt_build.proofs.Stepping.{step_closes, step_words}
use Rattle.smt_build.proofs.elaborate.step.Goals as goal

pub returns-in-Open-clause-steps : goal.returns-in-Open-clause-steps
unfolding step
returns-in-Open-clause-steps c = rw c.in-Open.is (c.open_list.ensures c.args.terms.now)

pub returns-in_ok-part-in-Some-clause-steps : goal.returns-in_ok-part-in-Some-clause-steps
returns-in_ok-part-in-Some-clause-steps c = rw c.in-Close.is (step_closes _ _ _ _ _ _ _ _ c.in-Some.list c.in-Some.ensures.items c.in_ok-part-in-Some.part _ c.in_ok-part-in-Some.ensures.does (c.hand.ensures _))

pub returns-in_ok-part-in_default-clause-steps : goal.returns-in_ok-part-in_default-clause-steps
returns-in_ok-part-in_default-clause-steps c =
    step_words _ _ _ _ _ _ _ _ _ _ c.in_default.not-Open c.in_default.not-Close (rw c.deref.ensures.value at c.wanted.ensures) c.in_ok-part-in_default.part _ c.in_ok-part-in_default.ensures.does (c.hand-in_default.ensures _)
