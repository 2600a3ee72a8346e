use Rattle.std.proofs.Common.{◌≡◌, ◌∙◌, [], ◌∷◌, sym, subst, length, rules}
use Rattle.std.specs.Prelude.{vec_len}
use Rattle.smt_syntax.specs.Sexps.{signs_in}
use Rattle.smt_syntax.specs.Spans.{AllStand}
use Rattle.smt_build.specs.Naming.{parts_of}
use Rattle.smt_build.specs.Parameters.{named_parameter, Lists}
use Rattle.smt_build.proofs.ParameterLists.{two_parts, other_parts, first_two}
use Rattle.smt_build.proofs.parameters.next_parameter.Goals as goal

pub returns-then-len-ne2 : goal.returns-then-len-ne2
returns-then-len-ne2 c = λ e l.
    let size : vec_len c.in_ok-spans.spans ≡ length c.in_ok-spans.spans.items = search rules in
    other_parts (signs_in c.args.tokens.now) c.in_ok-spans.spans.items c.args.symbols.now c.args.parameters.now e (c.in_ok-spans.ensures e l) (λ two. c.if-len-ne2.true (c.len.ensures ∙ size ∙ two))

pub returns : goal.returns
returns c = λ e l.
    let size : vec_len c.in_ok-spans.spans ≡ length c.in_ok-spans.spans.items = search rules in
    let two : c.in_ok-spans.spans.items ≡ c.index-2.result.now ∷ c.index.result.now ∷ [] =
    first_two c.in_ok-spans.spans.items c.index-2.result.now c.index.result.now (sym size ∙ sym c.len.ensures ∙ c.if-len-ne2.false) ∙ (λ i. (sym c.index-2.ensures) i ∷ (sym c.index.ensures) i ∷ []) in
    two_parts (signs_in c.args.tokens.now) c.index-2.result.now c.index.result.now c.args.symbols.now c.args.parameters.now c.named_parameter.new.parameters c.named_parameter.result e
    (subst (λ ss. AllStand (signs_in c.args.tokens.now) ss (parts_of e)) two (c.in_ok-spans.ensures e l))
    (λ n s a b. subst (λ q. Lists (named_parameter c.args.parameters.now n q) c.named_parameter.result c.named_parameter.new.parameters) (c.in_ok-sort.ensures s (c.tokens_at.ensures b.within ∙ b.spelled)) (c.named_parameter.ensures n (c.tokens_at-2.ensures a.within ∙ a.spelled)))
