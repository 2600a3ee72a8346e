use Rattle.std.proofs.Common.{◌≡◌, sym, subst, ◌∙◌}
use Rattle.script_state.specs.States.{with_terms}
use Rattle.accepted_proof.specs.Turns.{IsOfScript}
use Rattle.proof_checker.proofs.Lining.{declared_step, fit_tried, tried_state, kept_state}
use Rattle.proof_checker.proofs.steps.try_step.Goals as goal

pub try_push-taken-requires-clause-declared : goal.try_push-taken-requires-clause-declared
try_push-taken-requires-clause-declared c =
    let parts = c.into_parts-terms in
    let before : c.args.state.now ≡ with_terms parts.result.1 parts.result.0 = sym c.replace.ensures.value ∙ parts.ensures.state in
    declared_step (with_terms parts.result.1 parts.result.0) c.args.entry parts.ensures.fit.state (subst (λ s. IsOfScript s c.args.entry) before c.requires.script)

pub from_parts-requires : goal.from_parts-requires
from_parts-requires c =
    let parts = c.into_parts-terms in
    let tried = c.try_push-taken in
    let before : c.args.state.now ≡ with_terms parts.result.1 parts.result.0 = sym c.replace.ensures.value ∙ parts.ensures.state in
    fit_tried parts.result.0 tried.new.terms parts.result.1 c.args.log.now tried.new.self c.args.entry tried.result parts.ensures.fit
    (subst (λ s. IsOfScript s c.args.entry) before c.requires.script) tried.ensures.ok tried.ensures.err

pub returns-clause-ok : goal.returns-clause-ok
returns-clause-ok c =
    let parts = c.into_parts-terms in
    let tried = c.try_push-taken in
    tried_state parts.result.0 tried.new.terms parts.result.1 c.args.log.now tried.new.self c.args.entry c.args.state.now c.from_parts.result tried.result
    (sym c.replace.ensures.value ∙ parts.ensures.state) c.from_parts.ensures tried.ensures.ok

pub returns-clause-err : goal.returns-clause-err
returns-clause-err c =
    let parts = c.into_parts-terms in
    let tried = c.try_push-taken in
    kept_state parts.result.0 tried.new.terms parts.result.1 c.args.log.now tried.new.self c.args.entry c.args.state.now c.from_parts.result tried.result
    (sym c.replace.ensures.value ∙ parts.ensures.state) c.from_parts.ensures tried.ensures.err
