use Rattle.std.proofs.Common.{arith}
use Rattle.std.proofs.lemmas.Result.{err_from_is_err_and}
use Rattle.smt_build.proofs.Growth.{all_grow}
use Rattle.smt_build.proofs.Folds.{grouped_more, grouped_fails}
use Rattle.smt_build.proofs.grouping.right.Goals as goal

pub returns-in_err-term-clause-means : goal.returns-in_err-term-clause-means
returns-in_err-term-clause-means c =
    let p = err_from_is_err_and c.from_residual.result c.from_residual.ensures.1 in
    rw (p.1, p.2) (grouped_fails _ _ _ _ _ _ _ _ _ c.loop-place.invariant.0 (omega (arith, c.loop-place-test.true)) (omega (arith, c.loop-place.invariant.1, c.loop-place-test.true)) _ _ _ c.in_err-term.ensures.builds)

pub loop-place-preserved : goal.loop-place-preserved
loop-place-preserved c =
    (grouped_more _ _ _ _ _ _ _ _ _ c.loop-place.invariant.0 (omega (arith, c.loop-place-test.true)) (omega (arith, c.loop-place.invariant.1, c.loop-place-test.true)) _ _ c.in_ok-term.ensures.builds, omega (arith, c.loop-place.invariant.1), all_grow _ _ _ c.loop-place.invariant.2 c.in_ok-term.ensures.grows)

pub returns-clause-grows : goal.returns-clause-grows
returns-clause-grows c = all_grow _ _ _ c.loop-place.invariant.2 c.of_two-2.ensures.grows
