use Rattle.std.proofs.Common.{◌∙◌, [], sym, subst, Err}
use Rattle.std.proofs.lemmas.Result.{err_from_is_err_and}
use Rattle.smt_syntax.specs.Sexps.{signs_in}
use Rattle.smt_syntax.specs.Spans.{AllStand}
use Rattle.smt_build.specs.Naming.{parts_of}
use Rattle.smt_build.specs.Parameters.{next_parameter, Lists}
use Rattle.smt_build.proofs.ParameterLists.{list_fails, list_of}
use Rattle.smt_build.proofs.PartLists.{behind_none, behind_more, behind_all}
use Rattle.smt_build.proofs.parameters.parameters_in.Goals as goal

pub parameters-init : goal.parameters-init
parameters-init c = behind_none (next_parameter c.args.symbols.now) _ _ [] _ c.requires

pub parameters-preserved : goal.parameters-preserved
parameters-preserved c =
    behind_more (next_parameter c.args.symbols.now) (signs_in c.args.tokens.now) c.as_slice-spans.result.now [] c.parameters.span-index _ c.parameters.parameters c.parameters-test.true c.parameters.invariant c.next_parameter.new.parameters
    (λ e h. c.in_ok-next_parameter.ensures e (c.tokens_at.ensures h.within ∙ h.spelled))

pub returns-in_err-next_parameter : goal.returns-in_err-next_parameter
returns-in_err-next_parameter c = λ e l.
    let p = err_from_is_err_and c.from_residual-in_err-next_parameter.result c.from_residual-in_err-next_parameter.ensures.1 in
    let stand = subst (λ ss. AllStand (signs_in c.args.tokens.now) ss (parts_of e)) (sym c.as_slice-spans.ensures.value) (c.in_ok-spans.ensures e l) in
    rw (p.1, p.2) (subst (λ q. Lists q (Err c.in_err-next_parameter.field-0.0) c.next_parameter.new.parameters) (sym (list_of _ e l c.if-tokens-lt2.false c.args.symbols.now))
    (list_fails c.args.symbols.now (signs_in c.args.tokens.now) c.as_slice-spans.result.now c.parameters.span-index _ c.parameters.parameters c.parameters-test.true c.parameters.invariant _ c.next_parameter.new.parameters _ (parts_of e) stand
    (λ f h. c.in_err-next_parameter.ensures f (c.tokens_at.ensures h.within ∙ h.spelled))))

pub returns : goal.returns
returns c = λ e l.
    let stand = subst (λ ss. AllStand (signs_in c.args.tokens.now) ss (parts_of e)) (sym c.as_slice-spans.ensures.value) (c.in_ok-spans.ensures e l) in
    list_of _ e l c.if-tokens-lt2.false c.args.symbols.now ∙ behind_all (next_parameter c.args.symbols.now) (signs_in c.args.tokens.now) c.as_slice-spans.result.now [] c.parameters.span-index c.parameters.parameters c.parameters-test.false c.parameters.invariant (parts_of e) stand
