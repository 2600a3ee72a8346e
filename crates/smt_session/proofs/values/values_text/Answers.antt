use Rattle.std.proofs.Common.{◌≡◌, ◌<◌, length, map, sym, ◌∙◌, subst}
use Rattle.std.specs.Prelude.{All}
use Rattle.std.proofs.lemmas.Result.{IfOk-weaker}
use Rattle.smt_terms.specs.Terms.{TermsValue}
use Rattle.smt_values.specs.Held.{interpretation_of}
use Rattle.smt_eval.specs.Evaluated.{AreSuited}
use Rattle.script_state.specs.declared.answer.Asked.{Asked}
use Rattle.accepted_proof.specs.Answers.{asked_text}
use Rattle.smt_session.proofs.Tabling.{no_values, model_of, table_suits, values_same}
use Rattle.smt_session.proofs.values.values_text.Goals as goal

pub returns-then-not-has_model-clause-text : goal.returns-then-not-has_model-clause-text
returns-then-not-has_model-clause-text c = c.new.ensures ∙ no_values c.args.state.now.terms.nodes c.args.asked.now c.args.last.now (sym c.has_model.ensures ∙ c.if-not-has_model.true)

pub value_items-requires-clause-held : goal.value_items-requires-clause-held
value_items-requires-clause-held c = subst (λ (v : TermsValue). All (λ (a : Asked). a.term < length v.nodes) c.args.asked.now) (sym c.terms.ensures.terms) c.requires.held

pub value_items-requires-clause-suited : goal.value_items-requires-clause-suited
value_items-requires-clause-suited c =
    let model = model_of c.args.last.now (sym c.has_model.ensures ∙ c.if-not-has_model.false) in
    subst (λ (v : TermsValue). AreSuited v.nodes c.in_ok-values.values) (sym c.terms.ensures.terms)
    (table_suits c.args.last.now model.0 c.in_ok-values.values model.1 c.in_ok-values.ensures.table c.args.state.now c.terms.ensures.state c.requires.sorted)

pub keep-requires : goal.keep-requires
keep-requires c = rw c.take_values.ensures.same c.in_ok-values.ensures.table

pub returns-clause-text : goal.returns-clause-text
returns-clause-text c =
    let model = model_of c.args.last.now (sym c.has_model.ensures ∙ c.if-not-has_model.false) in
    let items = subst (λ (v : TermsValue). c.in_ok-items.items.items ≡ map (asked_text v.nodes (interpretation_of c.in_ok-values.values)) c.args.asked.now) c.terms.ensures.terms c.in_ok-items.ensures in
    IfOk-weaker c.list_text.result _ _
    (λ t told. told
    ∙ values_same c.args.last.now model.0 c.in_ok-values.values model.1 c.in_ok-values.ensures.table c.args.state.now.terms.nodes c.args.asked.now c.as_slice.result.now (c.as_slice.ensures.value ∙ items))
    c.list_text.ensures

pub returns-clause-same : goal.returns-clause-same
returns-clause-same c = c.keep.ensures ∙ c.take_values.ensures.same
