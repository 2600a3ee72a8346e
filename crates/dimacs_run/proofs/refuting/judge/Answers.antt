use Rattle.dimacs_run.proofs.Told.{clauses_judged, clauses_read, clauses_cause, refutation_judged, refutation_read, refutation_cause, accepted_judged}
use Rattle.dimacs_run.proofs.refuting.judge.Goals as goal

pub returns-in-Err-clause-judged : goal.returns-in-Err-clause-judged
returns-in-Err-clause-judged g c = rw c.end_in_clauses.ensures (clauses_judged (g.S.Source.left c.args.clauses.now) (g.P.Source.left c.args.refutation.now) _ c.in-Err.ensures.judged)

pub returns-in-Err-clause-read : goal.returns-in-Err-clause-read
returns-in-Err-clause-read g c = rw c.end_in_clauses.ensures (clauses_read _ _ _ _ c.in-Err.ensures.read)

pub returns-in-Err-clause-cause : goal.returns-in-Err-clause-cause
returns-in-Err-clause-cause g c = rw c.end_in_clauses.ensures (clauses_cause _ _ _ _ _ c.in-Err.ensures.cause)

pub returns-in-Ok-check_refutation-clause-judged : goal.returns-in-Ok-check_refutation-clause-judged
returns-in-Ok-check_refutation-clause-judged g c = accepted_judged (g.S.Source.left c.args.clauses.now) (g.P.Source.left c.args.refutation.now) _ c.in-Ok.ensures.judged c.in-Ok-check_refutation.ensures.judged

pub returns-in-Ok-check_refutation-clause-read : goal.returns-in-Ok-check_refutation-clause-read
returns-in-Ok-check_refutation-clause-read g c = (c.in-Ok.ensures.read, c.in-Ok-check_refutation.ensures.read)

pub returns-in-Err-check_refutation-clause-judged : goal.returns-in-Err-check_refutation-clause-judged
returns-in-Err-check_refutation-clause-judged g c = rw c.end_in_refutation.ensures (refutation_judged (g.S.Source.left c.args.clauses.now) (g.P.Source.left c.args.refutation.now) _ _ c.in-Ok.ensures.judged c.in-Err-check_refutation.ensures.judged)

pub returns-in-Err-check_refutation-clause-read : goal.returns-in-Err-check_refutation-clause-read
returns-in-Err-check_refutation-clause-read g c = rw c.end_in_refutation.ensures (refutation_read _ _ _ _ _ c.in-Ok.ensures.read c.in-Err-check_refutation.ensures.read)

pub returns-in-Err-check_refutation-clause-cause : goal.returns-in-Err-check_refutation-clause-cause
returns-in-Err-check_refutation-clause-cause g c = rw c.end_in_refutation.ensures (refutation_cause _ _ _ _ _ c.in-Err-check_refutation.ensures.cause)
