use Rattle.std.proofs.Common.{◌≡◌, ◌∙◌, [], ◌∷◌, sym, subst, length, get_or, rules}
use Rattle.std.specs.Prelude.{vec_len}
use Rattle.smt_syntax.specs.Sexps.{signs_in}
use Rattle.smt_syntax.specs.Spans.{AllStand}
use Rattle.smt_build.specs.Naming.{parts_of}
use Rattle.smt_build.proofs.ArraySorts.{three_parts, first_three, other_count}
use Rattle.smt_build.proofs.sorts.array_sort.Goals as goal

pub returns-then-len-ne3 : goal.returns-then-len-ne3
returns-then-len-ne3 c = λ s b l.
    let size : vec_len c.in_ok-spans.spans ≡ length c.in_ok-spans.spans.items = search rules in
    other_count (signs_in c.args.tokens.now) c.in_ok-spans.spans.items c.args.symbols.now.sorts s (c.in_ok-spans.ensures s l) (λ three. c.if-len-ne3.true (c.len.ensures ∙ size ∙ three))

pub returns : goal.returns
returns c = λ s b l.
    let size : vec_len c.in_ok-spans.spans ≡ length c.in_ok-spans.spans.items = search rules in
    let three : c.in_ok-spans.spans.items ≡ get_or c.in_ok-spans.spans.items 0 c.index.result.now ∷ c.index.result.now ∷ c.index-2.result.now ∷ [] =
    first_three c.in_ok-spans.spans.items c.index.result.now c.index.result.now c.index-2.result.now (sym size ∙ sym c.len.ensures ∙ c.if-len-ne3.false)
    ∙ (λ i. get_or c.in_ok-spans.spans.items 0 c.index.result.now ∷ (sym c.index.ensures) i ∷ (sym c.index-2.ensures) i ∷ []) in
    c.array_by.ensures
    ∙ three_parts (signs_in c.args.tokens.now) (get_or c.in_ok-spans.spans.items 0 c.index.result.now) c.index.result.now c.index-2.result.now c.args.symbols.now.sorts s c.part_sort-index.result c.part_sort-element.result
    (subst (λ ss. AllStand (signs_in c.args.tokens.now) ss (parts_of s)) three (c.in_ok-spans.ensures s l))
    (λ e h. c.part_sort-index.ensures e (c.tokens_at.ensures h.within ∙ h.spelled))
    (λ f h. c.part_sort-element.ensures f (c.tokens_at-2.ensures h.within ∙ h.spelled))
