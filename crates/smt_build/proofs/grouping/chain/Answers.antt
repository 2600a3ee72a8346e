use Rattle.std.proofs.lemmas.Result.{err_from_is_err_and}
use Rattle.smt_build.proofs.Growth.{all_grow}
use Rattle.smt_build.proofs.Folds.{goes_more, goes_out, chain_more, chain_fails}
use Rattle.smt_build.proofs.grouping.chain.Goals as goal

pub returns-in_err-term-clause-chains : goal.returns-in_err-term-clause-chains
returns-in_err-term-clause-chains c =
    let p = err_from_is_err_and c.from_residual.result c.from_residual.ensures.1 in
    rw (p.1, p.2) (chain_fails _ _ _ _ _ _ _ _ _ c.loop-next.invariant.0 c.loop-next-test.true c.in_err-term.ensures.builds)

pub returns-in_err-term-clause-grows : goal.returns-in_err-term-clause-grows
returns-in_err-term-clause-grows c = all_grow _ _ _ c.loop-next.invariant.1 c.in_err-term.ensures.grows

pub returns-in_err-push-clause-grows : goal.returns-in_err-push-clause-grows
returns-in_err-push-clause-grows c = all_grow _ _ _ c.loop-next.invariant.1 c.in_ok-term.ensures.grows

pub loop-next-preserved : goal.loop-next-preserved
loop-next-preserved c =
    (goes_more _ _ _ _ _ _ c.loop-next.invariant.0 c.loop-next-test.true _ (chain_more _ _ _ _ _ c.in_ok-term.ensures.builds c.in_ok-push.ensures.items), all_grow _ _ _ c.loop-next.invariant.1 c.in_ok-term.ensures.grows)

pub returns-clause-chains : goal.returns-clause-chains
returns-clause-chains c = (c.loop-next.last, goes_out _ _ _ _ _ c.loop-next.invariant.0 c.loop-next-test.false)
