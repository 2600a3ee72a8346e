use Rattle.std.proofs.Common.{refl, ap, ◌∙◌}
use Rattle.smt_build.specs.Declaring.{of_constant}
use Rattle.smt_build.proofs.Spellings.{at_span}
use Rattle.smt_build.proofs.Declarations.{declares_constant, declares_function, another}
use Rattle.smt_build.proofs.symbols.Symbols.declare.Goals as goal

pub returns-in_ok-sort-in-DeclareConst : goal.returns-in_ok-sort-in-DeclareConst
returns-in_ok-sort-in-DeclareConst c = rw c.in-DeclareConst.is (λ es h.
    declares_constant _ _ _ es h _ _ _ c.of_constant.result
    (λ n a. c.declare_name.ensures n (at_span _ _ _ _ n c.as_slice-items.ensures c.tokens_at-in-DeclareConst.ensures a))
    (λ s b. c.of_constant.ensures ∙ ap of_constant (c.in_ok-sort-in-DeclareConst.ensures s (at_span _ _ _ _ s c.as_slice-items.ensures c.tokens_at.ensures b))))

pub returns-in_ok-signature-in-DeclareFun : goal.returns-in_ok-signature-in-DeclareFun
returns-in_ok-signature-in-DeclareFun c = rw c.in-DeclareFun.is (λ es h.
    declares_function _ _ _ _ es h _ _ _ c.in_ok-signature-in-DeclareFun.signature
    (λ n a. c.declare_name-in-DeclareFun.ensures n (at_span _ _ _ _ n c.as_slice-items.ensures c.tokens_at-in-DeclareFun-3.ensures a))
    (λ p s b d. c.in_ok-signature-in-DeclareFun.ensures p s (at_span _ _ _ _ p c.as_slice-items.ensures c.tokens_at-in-DeclareFun.ensures b) (at_span _ _ _ _ s c.as_slice-items.ensures c.tokens_at-in-DeclareFun-2.ensures d)))

pub returns-in_default : goal.returns-in_default
returns-in_default c = λ es h. (another _ _ c.args.command.now c.in_default.not-DeclareConst c.in_default.not-DeclareFun es h, refl)
