use Rattle.std.proofs.Common.{ap, ◌∙◌, false, true}
use Rattle.std.proofs.lemmas.Result.{IfOk-weaker}
use Rattle.accepted_proof.specs.Answers.{done_text, values_text}
use Rattle.smt_session.specs.Sessions.{response}
use Rattle.smt_session.proofs.Responding.{done_responds, refused_responds, says_responds, model_responds, values_responds, core_responds, assumptions_responds, exit_responds}
use Rattle.smt_session.proofs.session.response_without_check.Goals as goal
use Rattle.smt_session.proofs.session.response_without_check.Goals.{in-Model+in_ok-text-in-Model, in-Values+in_ok-text-in-Values, in-Core+in_ok-text-in-Core, in-Assumptions+in_ok-text-in-Assumptions}

pub returns-in-Done-clause-response : goal.returns-in-Done-clause-response
returns-in-Done-clause-response c =
    IfOk-weaker c.done.result _ _
    (λ r told. λ limits file written. done_responds _ _ _ _ _ _ _ _ _ c.in-Done.is (told ∙ ap (λ o. response (done_text o) false false) c.options.ensures))
    c.done.ensures

pub returns-in-Refused-clause-response : goal.returns-in-Refused-clause-response
returns-in-Refused-clause-response c =
    IfOk-weaker c.refusal.result _ _ (λ r told. λ limits file written. refused_responds _ _ _ _ _ _ _ _ _ c.in-Refused.error c.in-Refused.is told) c.refusal.ensures

pub returns-in-Says-clause-response : goal.returns-in-Says-clause-response
returns-in-Says-clause-response c =
    IfOk-weaker c.line.result _ _ (λ r told. λ limits file written. says_responds _ _ _ _ _ _ _ _ _ c.in-Says.text c.in-Says.is told) c.line.ensures

pub returns-in-Exit-clause-response : goal.returns-in-Exit-clause-response
returns-in-Exit-clause-response c =
    IfOk-weaker c.done-in-Exit.result _ _
    (λ r told. λ limits file written. exit_responds _ _ _ _ _ _ _ _ _ c.in-Exit.is (told ∙ ap (λ o. response (done_text o) false true) c.options-in-Exit.ensures))
    c.done-in-Exit.ensures

pub returns-clause-response : goal.returns-clause-response
returns-clause-response c = λ limits file written. elim c.match-answer.branch [
  | in-Model+in_ok-text-in-Model w ↦ model_responds _ _ _ _ _ _ _ _ _ w.in-Model.is (c.told.ensures ∙ ap (λ t. response t false false) (w.text-is ∙ w.in_ok-text-in-Model.ensures.text))
  | in-Values+in_ok-text-in-Values w ↦ values_responds _ _ _ _ _ _ _ _ _ w.in-Values.asked w.in-Values.is (c.told.ensures ∙ ap (λ t. response t false false) (w.text-is ∙ w.in_ok-text-in-Values.ensures.text ∙ ap (λ asked. values_text c.args.state.now.terms.nodes asked c.args.last.now) w.as_slice.ensures))
  | in-Core+in_ok-text-in-Core w ↦ core_responds _ _ _ _ _ _ _ _ _ w.in-Core.is (c.told.ensures ∙ ap (λ t. response t false false) (w.text-is ∙ w.in_ok-text-in-Core.ensures))
  | in-Assumptions+in_ok-text-in-Assumptions w ↦ assumptions_responds _ _ _ _ _ _ _ _ _ w.in-Assumptions.is (c.told.ensures ∙ ap (λ t. response t false false) (w.text-is ∙ w.in_ok-text-in-Assumptions.ensures))
]

pub returns-clause-same : goal.returns-clause-same
returns-clause-same c = elim c.match-answer.branch [
  | in-Model+in_ok-text-in-Model w ↦ w.last-is ∙ w.in_ok-text-in-Model.ensures.same
  | in-Values+in_ok-text-in-Values w ↦ w.last-is ∙ w.in_ok-text-in-Values.ensures.same
  | in-Core+in_ok-text-in-Core w ↦ w.last-is
  | in-Assumptions+in_ok-text-in-Assumptions w ↦ w.last-is
]
