use Rattle.std.proofs.Common.{sym, ◌∙◌}
use Rattle.std.specs.Prelude.{Ok, Err}
use Rattle.dimacs_run.specs.Reads.{counts}
use Rattle.smt_run.proofs.Searched.{search_usage, search_within, search_long, search_cause}
use Rattle.smt_run.proofs.searching.search_clauses.Goals as goal

-- something was found

pub returns-in-Ok-clause-usage : goal.returns-in-Ok-clause-usage
returns-in-Ok-clause-usage g c = λ e. search_usage (Ok c.in-Ok.finding) (sym c.status_found.ensures ∙ e)

pub returns-in-Ok-clause-searched : goal.returns-in-Ok-clause-searched
returns-in-Ok-clause-searched g c = record { result = Ok c.in-Ok.finding; status_is = c.status_found.ensures; answered = c.in-Ok.ensures.answered }

pub returns-in-Ok-clause-within : goal.returns-in-Ok-clause-within
returns-in-Ok-clause-within g c = λ n. search_within _ _ (Ok c.in-Ok.finding) c.in-Ok.ensures.read (λ e. n (c.status_found.ensures ∙ e))

pub returns-in-Ok-clause-too_long : goal.returns-in-Ok-clause-too_long
returns-in-Ok-clause-too_long g c = λ e. search_long _ _ (Ok c.in-Ok.finding) c.in-Ok.ensures.read (sym c.status_found.ensures ∙ e)

pub returns-in-Ok-clause-answers : goal.returns-in-Ok-clause-answers
returns-in-Ok-clause-answers g c = let a = c.in-Ok.ensures.answered in (a.0, a.1)

pub returns-in-Ok-clause-refutation : goal.returns-in-Ok-clause-refutation
returns-in-Ok-clause-refutation g c = c.solve_clauses.ensures.added

pub returns-in-Ok-clause-later : goal.returns-in-Ok-clause-later
returns-in-Ok-clause-later g c =
    let l = c.solve_clauses.ensures.later in
    record { script = l.clauses; answers = l.answers; proof = l.refutation }

pub returns-in-Ok-clause-cause : goal.returns-in-Ok-clause-cause
returns-in-Ok-clause-cause g c =
    rw c.status_found.ensures
    (search_cause (counts (g.S.Source.faults c.args.clauses.now) (g.W.Sink.faults c.args.answers.now) (g.Q.Sink.faults c.args.refutation.now))
    (counts (g.S.Source.faults c.solve_clauses.new.clauses) (g.W.Sink.faults c.solve_clauses.new.answers) (g.Q.Sink.faults c.solve_clauses.new.refutation)) (Ok c.in-Ok.finding) tt)

-- the search ended before

pub returns-in-Err-clause-usage : goal.returns-in-Err-clause-usage
returns-in-Err-clause-usage g c = λ e. search_usage (Err c.in-Err.failure) (sym c.status_unfound.ensures ∙ e)

pub returns-in-Err-clause-searched : goal.returns-in-Err-clause-searched
returns-in-Err-clause-searched g c = record { result = Err c.in-Err.failure; status_is = c.status_unfound.ensures; answered = c.in-Err.ensures.answered }

pub returns-in-Err-clause-within : goal.returns-in-Err-clause-within
returns-in-Err-clause-within g c = λ n. search_within _ _ (Err c.in-Err.failure) c.in-Err.ensures.read (λ e. n (c.status_unfound.ensures ∙ e))

pub returns-in-Err-clause-too_long : goal.returns-in-Err-clause-too_long
returns-in-Err-clause-too_long g c = λ e. search_long _ _ (Err c.in-Err.failure) c.in-Err.ensures.read (sym c.status_unfound.ensures ∙ e)

pub returns-in-Err-clause-answers : goal.returns-in-Err-clause-answers
returns-in-Err-clause-answers g c = let a = c.in-Err.ensures.answered in (a.0, a.1)

pub returns-in-Err-clause-refutation : goal.returns-in-Err-clause-refutation
returns-in-Err-clause-refutation g c = c.solve_clauses.ensures.added

pub returns-in-Err-clause-later : goal.returns-in-Err-clause-later
returns-in-Err-clause-later g c =
    let l = c.solve_clauses.ensures.later in
    record { script = l.clauses; answers = l.answers; proof = l.refutation }

pub returns-in-Err-clause-cause : goal.returns-in-Err-clause-cause
returns-in-Err-clause-cause g c =
    rw c.status_unfound.ensures
    (search_cause (counts (g.S.Source.faults c.args.clauses.now) (g.W.Sink.faults c.args.answers.now) (g.Q.Sink.faults c.args.refutation.now))
    (counts (g.S.Source.faults c.solve_clauses.new.clauses) (g.W.Sink.faults c.solve_clauses.new.answers) (g.Q.Sink.faults c.solve_clauses.new.refutation)) (Err c.in-Err.failure) c.in-Err.ensures.cause)
