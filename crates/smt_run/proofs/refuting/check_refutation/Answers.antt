use Rattle.std.proofs.Common.{◌≡◌, sym, ap, ◌∙◌, subst, inl}
use Rattle.std.specs.Prelude.{◌⊎◌, Ok}
use Rattle.smt_check.specs.declared.status.Status.{Status}
use Rattle.smt_check.specs.declared.status.Status.TheVariants.{Done, Refused}
use Rattle.dimacs_run.specs.Reads.{counts}
use Rattle.smt_run.proofs.Refuted.{refuted_usage, refuted_none, refuted_read, refuted_told, refuted_cause, failed_usage, failed_end, failed_read, failed_cause}
use Rattle.smt_run.proofs.refuting.check_refutation.Goals as goal

-- both texts are judged

pub returns-in-Ok-clause-usage : goal.returns-in-Ok-clause-usage
returns-in-Ok-clause-usage g c = λ e. refuted_usage _ (sym c.status_by.ensures ∙ e)

pub returns-in-Ok-clause-ended : goal.returns-in-Ok-clause-ended
returns-in-Ok-clause-ended g c = λ _. refuted_told (g.S.Source.left c.args.clauses.now) (g.P.Source.left c.args.refutation.now) (g.W.Sink.written c.args.answers.now) (g.W.Sink.written c.refute.new.answers) _ _ c.status_by.ensures c.in-Ok.ensures.ended

pub returns-in-Ok-clause-right : goal.returns-in-Ok-clause-right
returns-in-Ok-clause-right g c = λ e. c.in-Ok.ensures.right (ap Ok (refuted_none _ (sym c.status_by.ensures ∙ e)))

pub returns-in-Ok-clause-front : goal.returns-in-Ok-clause-front
returns-in-Ok-clause-front g c = c.refute.ensures.front

pub returns-in-Ok-clause-read : goal.returns-in-Ok-clause-read
returns-in-Ok-clause-read g c = rw c.status_by.ensures (refuted_read _ _ _ _ _ c.in-Ok.ensures.read)

pub returns-in-Ok-clause-answers : goal.returns-in-Ok-clause-answers
returns-in-Ok-clause-answers g c = c.refute.ensures.answers

pub returns-in-Ok-clause-later : goal.returns-in-Ok-clause-later
returns-in-Ok-clause-later g c =
    let l = c.refute.ensures.later in
    record { script = l.clauses; answers = l.answers; proof = l.refutation }

pub returns-in-Ok-clause-cause : goal.returns-in-Ok-clause-cause
returns-in-Ok-clause-cause g c =
    rw c.status_by.ensures
    (refuted_cause (counts (g.S.Source.faults c.args.clauses.now) (g.W.Sink.faults c.args.answers.now) (g.P.Source.faults c.args.refutation.now))
    (counts (g.S.Source.faults c.refute.new.clauses) (g.W.Sink.faults c.refute.new.answers) (g.P.Source.faults c.refute.new.refutation)) _)

-- the check ended before

pub returns-in-Err-clause-usage : goal.returns-in-Err-clause-usage
returns-in-Err-clause-usage g c = λ e. failed_usage _ (sym c.status_of_failure.ensures ∙ e)

pub returns-in-Err-clause-ended : goal.returns-in-Err-clause-ended
returns-in-Err-clause-ended g c = λ k. failed_end _ _ (subst (λ (t : Status). (t ≡ Done) ⊎ (t ≡ Refused)) c.status_of_failure.ensures k)

pub returns-in-Err-clause-right : goal.returns-in-Err-clause-right
returns-in-Err-clause-right g c = λ e. failed_end _ _ (inl (sym c.status_of_failure.ensures ∙ e))

pub returns-in-Err-clause-front : goal.returns-in-Err-clause-front
returns-in-Err-clause-front g c = c.refute.ensures.front

pub returns-in-Err-clause-read : goal.returns-in-Err-clause-read
returns-in-Err-clause-read g c = rw c.status_of_failure.ensures (failed_read _ _ _ _ _ c.in-Err.ensures.read)

pub returns-in-Err-clause-answers : goal.returns-in-Err-clause-answers
returns-in-Err-clause-answers g c = c.refute.ensures.answers

pub returns-in-Err-clause-later : goal.returns-in-Err-clause-later
returns-in-Err-clause-later g c =
    let l = c.refute.ensures.later in
    record { script = l.clauses; answers = l.answers; proof = l.refutation }

pub returns-in-Err-clause-cause : goal.returns-in-Err-clause-cause
returns-in-Err-clause-cause g c =
    rw c.status_of_failure.ensures
    (failed_cause (counts (g.S.Source.faults c.args.clauses.now) (g.W.Sink.faults c.args.answers.now) (g.P.Source.faults c.args.refutation.now))
    (counts (g.S.Source.faults c.refute.new.clauses) (g.W.Sink.faults c.refute.new.answers) (g.P.Source.faults c.refute.new.refutation)) _ c.in-Err.ensures.cause)
