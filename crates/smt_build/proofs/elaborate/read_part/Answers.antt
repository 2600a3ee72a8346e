use Rattle.std.proofs.lemmas.Result.{err_from_is_err_and}
use Rattle.smt_build.proofs.Growth.{grows_both}
use Rattle.smt_build.proofs.Stepping.{step_more, step_ends, step_fails, reads_out}
use Rattle.smt_build.proofs.elaborate.read_part.Goals as goal

pub returns-in_err-part-clause-does : goal.returns-in_err-part-clause-does
returns-in_err-part-clause-does c =
    let p = err_from_is_err_and c.from_residual.result c.from_residual.ensures.1 in
    rw (p.1, p.2) (step_fails _ _ _ _ _ _ _ _ c.loop-token-test.true c.loop-token.invariant.0 _ _ _ c.in_err-part.ensures.steps)

pub returns-in-Some-clause-does : goal.returns-in-Some-clause-does
returns-in-Some-clause-does c = step_ends _ _ _ _ _ _ _ _ c.loop-token-test.true c.loop-token.invariant.0 _ _ (rw c.in-Some.is at c.in_ok-part.ensures.steps)

pub loop-token-preserved : goal.loop-token-preserved
loop-token-preserved c =
    (step_more _ _ _ _ _ _ _ _ c.loop-token-test.true c.loop-token.invariant.0 _ _ (rw c.in-None.is at c.in_ok-part.ensures.steps), grows_both _ _ _ _ c.loop-token.invariant.1 c.in_ok-part.ensures.grows)

pub returns-clause-does : goal.returns-clause-does
returns-clause-does c = reads_out _ _ _ _ _ _ _ c.loop-token-test.false c.loop-token.invariant.0
