use Rattle.std.proofs.Common.{sym}
use Rattle.std.proofs.lemmas.Result.{err_from_is_err_and}
use Rattle.smt_terms.proofs.Places.{each_refused}
use Rattle.smt_terms.proofs.rank.each_of.Goals as goal

pub returns-in_err-taken : goal.returns-in_err-taken
returns-in_err-taken c =
    let p = err_from_is_err_and c.from_residual.result c.from_residual.ensures.1 in
    let e = rw c.loop-sort.invariant.0 at c.in_err-taken.ensures in
    rw (p.1, p.2) (sym (each_refused _ _ _ _ c.loop-sort.invariant.1 _ _ c.loop-sort-test.true e))
