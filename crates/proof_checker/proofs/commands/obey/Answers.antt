use Rattle.std.proofs.Common.{length, sym, ap, ◌∙◌}
use Rattle.smt_terms.specs.Terms.{TermsValue}
use Rattle.script_state.specs.Steps.{Step}
use Rattle.proof_checker.proofs.Moving.{forgets_to_state, settled_asked}
use Rattle.proof_checker.proofs.commands.obey.Goals as goal

pub forget-requires : goal.forget-requires
forget-requires c =
    let told = c.in_ok-answer.ensures in
    forgets_to_state c.args.state.now c.apply.new.self told.0 c.in_ok-answer.answer c.in-Values.field-0 c.len-held.result c.terms.ensures.state told.2 c.in-Values.is (c.len-held.ensures.length ∙ ap (λ (t : TermsValue). length t.nodes) c.terms.ensures.terms)

pub returns-in-Values-clause-does : goal.returns-in-Values-clause-does
returns-in-Values-clause-does c =
    let told = c.in_ok-answer.ensures in (
      told.0,
      told.1,
      sym (ap (λ (to : Step). to.0) told.2),
      settled_asked c.args.state.now c.apply.new.self c.forget.new.self told.0 c.in_ok-answer.answer c.in-Values.field-0 c.len-held.result c.terms.ensures.state told.2 c.in-Values.is (c.len-held.ensures.length ∙ ap (λ (t : TermsValue). length t.nodes) c.terms.ensures.terms) c.forget.ensures,
    )
