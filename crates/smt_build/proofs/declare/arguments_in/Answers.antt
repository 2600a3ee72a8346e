use Rattle.std.proofs.Common.{◌∙◌, [], sym, subst}
use Rattle.smt_syntax.specs.Sexps.{signs_in}
use Rattle.smt_syntax.specs.Spans.{AllStand}
use Rattle.smt_build.specs.Naming.{parts_of}
use Rattle.smt_build.specs.Declaring.{next_argument}
use Rattle.smt_build.proofs.Declarations.{argument_more, argument_fails}
use Rattle.smt_build.proofs.PartLists.{behind_more, behind_fault, behind_all}
use Rattle.smt_build.proofs.declare.arguments_in.Goals as goal

pub returns-in-Err : goal.returns-in-Err
returns-in-Err c = λ e l.
    let stand = subst (λ ss. AllStand (signs_in c.args.tokens.now) ss (parts_of e)) (sym c.as_slice-spans.ensures.value) (c.in_ok-spans.ensures e l) in
    behind_fault (next_argument c.args.symbols.now) (signs_in c.args.tokens.now) c.as_slice-spans.result.now [] c.arguments.span-index _ c.arguments.args.items c.arguments-test.true c.arguments.invariant c.in-Err.fault (parts_of e) stand
    (λ f h. argument_fails c.args.symbols.now c.arguments.args.items c.in-Err.fault f (sym c.in-Err.is ∙ c.in_ok-sort.ensures f (c.tokens_at.ensures h.within ∙ h.spelled)))

pub arguments-preserved : goal.arguments-preserved
arguments-preserved c =
    behind_more (next_argument c.args.symbols.now) (signs_in c.args.tokens.now) c.as_slice-spans.result.now [] c.arguments.span-index _ c.arguments.args.items c.arguments-test.true c.arguments.invariant c.push.new.self.items
    (λ e h. argument_more c.args.symbols.now c.arguments.args.items c.push.new.self.items c.in-Ok.sort e (sym c.in-Ok.is ∙ c.in_ok-sort.ensures e (c.tokens_at.ensures h.within ∙ h.spelled)) c.in_ok-push-in-Ok.ensures.items)

pub returns : goal.returns
returns c = λ e l.
    let stand = subst (λ ss. AllStand (signs_in c.args.tokens.now) ss (parts_of e)) (sym c.as_slice-spans.ensures.value) (c.in_ok-spans.ensures e l) in
    behind_all (next_argument c.args.symbols.now) (signs_in c.args.tokens.now) c.as_slice-spans.result.now [] c.arguments.span-index c.arguments.args.items c.arguments-test.false c.arguments.invariant (parts_of e) stand
