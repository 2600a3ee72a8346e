use Rattle.std.proofs.lemmas.Result.{err_from_is_err_and}
use Rattle.smt_build.proofs.Growth.{all_grow}
use Rattle.smt_build.proofs.Folds.{goes_more, goes_out, apart_more, apart_fails}
use Rattle.smt_build.proofs.grouping.apart_from.Goals as goal

pub returns-in_err-term-clause-lists : goal.returns-in_err-term-clause-lists
returns-in_err-term-clause-lists c =
    let p = err_from_is_err_and c.from_residual.result c.from_residual.ensures.1 in
    rw (p.1, p.2) (apart_fails _ _ _ _ _ _ _ _ _ _ c.loop-b.invariant.0 c.loop-b-test.true c.in_err-term.ensures.means)

pub returns-in_err-term-clause-grows : goal.returns-in_err-term-clause-grows
returns-in_err-term-clause-grows c = all_grow _ _ _ c.loop-b.invariant.1 c.in_err-term.ensures.grows

pub returns-in_err-push-clause-grows : goal.returns-in_err-push-clause-grows
returns-in_err-push-clause-grows c = all_grow _ _ _ c.loop-b.invariant.1 c.in_ok-term.ensures.grows

pub loop-b-preserved : goal.loop-b-preserved
loop-b-preserved c =
    (goes_more _ _ _ _ _ _ c.loop-b.invariant.0 c.loop-b-test.true _ (apart_more _ _ _ _ _ _ _ c.in_ok-term.ensures.means c.in_ok-push.ensures.items), all_grow _ _ _ c.loop-b.invariant.1 c.in_ok-term.ensures.grows)

pub returns-clause-lists : goal.returns-clause-lists
returns-clause-lists c = goes_out _ _ _ _ _ c.loop-b.invariant.0 c.loop-b-test.false
