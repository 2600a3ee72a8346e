use Rattle.std.proofs.lemmas.Result.{err_from_is_err_and}
use Rattle.smt_build.proofs.Growth.{all_grow}
use Rattle.smt_build.proofs.Folds.{all_more, all_fails}
use Rattle.smt_build.proofs.grouping.all_apart.Goals as goal

pub returns-in_err-apart_from-2-clause-lists : goal.returns-in_err-apart_from-2-clause-lists
returns-in_err-apart_from-2-clause-lists c =
    let p = err_from_is_err_and c.from_residual-in_err-apart_from-2.result c.from_residual-in_err-apart_from-2.ensures.1 in
    rw (p.1, p.2) (all_fails _ _ _ _ _ _ _ c.in-len1-up.len_at_least c.loop-rest.invariant.0 _ _ _ c.in_err-apart_from-2.ensures.lists)

pub returns-in_err-apart_from-2-clause-grows : goal.returns-in_err-apart_from-2-clause-grows
returns-in_err-apart_from-2-clause-grows c = all_grow _ _ _ c.loop-rest.invariant.1 c.in_err-apart_from-2.ensures.grows

pub loop-rest-preserved : goal.loop-rest-preserved
loop-rest-preserved c =
    (all_more _ _ _ _ _ _ _ c.in-len1-up.len_at_least c.loop-rest.invariant.0 _ _ c.in_ok-apart_from-2.ensures.lists, all_grow _ _ _ c.loop-rest.invariant.1 c.in_ok-apart_from-2.ensures.grows)
