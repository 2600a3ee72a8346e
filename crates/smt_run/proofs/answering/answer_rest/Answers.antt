use Rattle.std.proofs.Common.{sym, ◌∙◌, subst}
use Rattle.std.specs.Prelude.{option_to_list}
use Rattle.std.proofs.KnownBytes.{Appends-nil}
use Rattle.smt_run.proofs.Turning.{last_none}
use Rattle.smt_run.proofs.OneTurn.{silent_breaks}
use Rattle.smt_run.specs.Adding.{moment_of, streams, AddsLast}
use Rattle.smt_run.proofs.answering.answer_rest.Goals as goal

pub returns-in_default-clause-broken : goal.returns-in_default-clause-broken
returns-in_default-clause-broken g c = silent_breaks _ _ _ _ _ (Appends-nil (g.Q.Sink.written c.args.proof.now))

pub returns-in-None-clause-turns : goal.returns-in-None-clause-turns
returns-in-None-clause-turns g c = rw c.end-in-None.ensures (last_none _ _ _ _ (sym c.in-Ok.ensures.ok ∙ c.in-None.is))

pub returns-in_ok-answer-in-Some-clause-turns : goal.returns-in_ok-answer-in-Some-clause-turns
returns-in_ok-answer-in-Some-clause-turns g c =
    let turn = c.in_ok-answer-in-Some.ensures.turn in
    subst
    (λ o. AddsLast (moment_of c.args.so_far.session) c.args.so_far.refused (streams (g.W.Sink.written c.args.answers.now) (g.Q.Sink.written c.args.proof.now)) (streams (g.W.Sink.written c.answer.new.answers) (g.Q.Sink.written c.answer.new.proof)) (option_to_list o) c.end.result)
    (sym c.in-Some.is ∙ c.in-Ok.ensures.ok)
    (record { done = turn.done; adds = turn.adds; refused_is = c.end.ensures ∙ turn.refused_is })
