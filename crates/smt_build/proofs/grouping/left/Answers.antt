use Rattle.std.proofs.lemmas.Result.{err_from_is_err_and}
use Rattle.smt_build.proofs.Growth.{grows_none, grows_both}
use Rattle.smt_build.proofs.Folds.{goes_none, goes_more, goes_out, left_fails}
use Rattle.smt_build.proofs.grouping.left.Goals as goal

pub loop-next-init : goal.loop-next-init
loop-next-init c = (goes_none _ _ _, λ signatures. grows_none signatures _)

pub returns-in_err-term-clause-means : goal.returns-in_err-term-clause-means
returns-in_err-term-clause-means c =
    let p = err_from_is_err_and c.from_residual.result c.from_residual.ensures.1 in
    rw (p.1, p.2) (left_fails _ _ _ _ _ _ _ _ _ _ c.loop-next.invariant.0 c.loop-next-test.true c.in_err-term.ensures.builds)

pub returns-in_err-term-clause-grows : goal.returns-in_err-term-clause-grows
returns-in_err-term-clause-grows c = λ signatures. grows_both signatures _ _ _ (c.loop-next.invariant.1 signatures) (c.in_err-term.ensures.grows signatures)

pub loop-next-preserved : goal.loop-next-preserved
loop-next-preserved c =
    (goes_more _ _ _ _ _ _ c.loop-next.invariant.0 c.loop-next-test.true _ c.in_ok-term.ensures.builds, λ signatures. grows_both signatures _ _ _ (c.loop-next.invariant.1 signatures) (c.in_ok-term.ensures.grows signatures))

pub returns-clause-means : goal.returns-clause-means
returns-clause-means c = goes_out _ _ _ _ _ c.loop-next.invariant.0 c.loop-next-test.false
