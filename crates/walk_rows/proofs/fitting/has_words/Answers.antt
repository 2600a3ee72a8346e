use Rattle.std.proofs.Common.{◌≡◌, sym, ◌∙◌, arith}
use Rattle.std.proofs.lemmas.Bool.{MatchBool-at_true}
use Rattle.smt_terms.specs.declared.sort.Sort.TheVariants as sort
use Rattle.smt_terms.specs.Terms.{sort_of}
use Rattle.theory_terms.specs.declared.shape.Shape.TheVariants.{Filling}
use Rattle.theory_terms.specs.Shapes.{shape_at}
use Rattle.access_walk.specs.Walked.{IsHeldWord}
use Rattle.walk_rows.specs.Fitting.{HasWords}
use Rattle.walk_rows.proofs.Fitted.{matched_both}
use Rattle.walk_rows.proofs.fitting.has_words.Goals as goal

pub returns : goal.returns
returns c =
    let nodes = c.args.terms.now.nodes in
    let bits = c.args.bits.now in
    let shape : shape_at nodes c.args.term ≡ Filling c.in-Filling.element = sym c.in-Filling.ensures in
    let array : sort_of nodes c.args.term ≡ sort.Array c.in-Array.width c.in-Array.field-1 = sym c.in-Array.ensures in
    let one : c.in-Array.width ≡ 1 = omega arith in
    let first : IsHeldWord nodes bits 1 0 = MatchBool-at_true _ _ c.if-not-has_word.false c.has_word.ensures in
    matched_both (IsHeldWord nodes bits 1 1) (HasWords nodes bits c.args.term) c.has_word-2.result
    (λ second. λ x n m e s.
    let same : sort.Array n m ≡ sort.Array c.in-Array.width c.in-Array.field-1 = sym s ∙ array in
    let width : n ≡ c.in-Array.width = cc in
    (width ∙ one, first, second))
    (λ h. (h c.in-Filling.element c.in-Array.width c.in-Array.field-1 shape array).2)
    c.has_word-2.ensures
