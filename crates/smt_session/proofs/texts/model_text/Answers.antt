use Rattle.std.proofs.Common.{sym, ◌∙◌}
use Rattle.smt_session.proofs.Tabling.{no_model, model_of, model_same}
use Rattle.smt_session.proofs.texts.model_text.Goals as goal

pub returns-then-not-has_model-clause-text : goal.returns-then-not-has_model-clause-text
returns-then-not-has_model-clause-text c = c.new.ensures ∙ no_model c.args.state.now c.args.last.now (sym c.has_model.ensures ∙ c.if-not-has_model.true)

pub keep-requires : goal.keep-requires
keep-requires c = rw c.take_values.ensures.same c.in_ok-values.ensures.table

pub returns-clause-text : goal.returns-clause-text
returns-clause-text c =
    let model = model_of c.args.last.now (sym c.has_model.ensures ∙ c.if-not-has_model.false) in
    c.in_ok-text.ensures ∙ model_same c.args.last.now model.0 c.in_ok-values.values model.1 c.in_ok-values.ensures.table c.args.state.now

pub returns-clause-same : goal.returns-clause-same
returns-clause-same c = c.keep.ensures ∙ c.take_values.ensures.same
