use Rattle.std.proofs.lemmas.Result.{err_from_is_err_and}
use Rattle.smt_build.proofs.Stepping.{means_term, means_error, means_other}
use Rattle.smt_build.proofs.elaborate.read_term.Goals as goal

pub returns-in_err-term-clause-reads : goal.returns-in_err-term-clause-reads
returns-in_err-term-clause-reads c = λ e l.
    let p = err_from_is_err_and c.from_residual.result c.from_residual.ensures.1 in
    rw (p.1, p.2) (means_error _ _ _ _ c.requires.scope _ e l _ _ _ c.in_err-term.ensures.does)

pub returns-in_default-clause-reads : goal.returns-in_default-clause-reads
returns-in_default-clause-reads c = λ e l. absurd (means_other _ _ _ _ c.requires.scope _ e l c.in_ok-term.field-0 _ c.in_ok-term.ensures.does c.in_default.not-Term)

pub returns-clause-reads : goal.returns-clause-reads
returns-clause-reads c = λ e l. means_term _ _ _ _ c.requires.scope _ e l _ _ _ (rw c.in-Term.is at c.in_ok-term.ensures.does)
