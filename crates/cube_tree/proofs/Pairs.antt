-- A search for a literal beside its opposite.
use Rattle.std.proofs.Common.{◌≡◌, ℕ, ◌+◌, ◌<◌, ◌≤◌, List, length, get_or, sym, ap, ◌∙◌, subst, ⊎_elim, arith}
use Rattle.std.specs.Prelude.{Contains}
use Rattle.std.proofs.lemmas.Bool.{cases_lt}
use Rattle.std.proofs.lemmas.List.{get_or_default}
use Rattle.cnf_base.specs.Literals.{Literal, negated}
use Rattle.hint_chain.specs.Chains.{HasPair}

abbrev pub NoneBelow : List Literal → ℕ → Type 0
NoneBelow xs i = (k : ℕ) (d : Literal) → k < i → ¬ (Contains xs (negated (get_or xs k d)))

pub none_more : (xs : List Literal) (i : ℕ) (e x : Literal) → x ≡ get_or xs i e → i < length xs → NoneBelow xs i → ¬ (Contains xs (negated x)) → NoneBelow xs (i + 1)
none_more xs i e x is within before here = λ k d h t.
    ⊎_elim
    (λ lt. before k d lt t)
    (λ le.
    let same : k ≡ i = omega arith in
    let P : Literal → Type 0 = λ y. Contains xs (negated y) in
    here (subst P (ap (λ j. get_or xs j d) same ∙ get_or_default xs i d e within ∙ sym is) t))
    (cases_lt k i)

pub no_pair : (xs : List Literal) (i : ℕ) → length xs ≤ i → NoneBelow xs i → ¬ (HasPair xs)
no_pair xs i past none = λ p.
    let P : Literal → Type 0 = λ y. Contains xs (negated y) in
    none p.1.0 p.0 (omega (arith, p.1.1)) (subst P (sym p.1.2) p.2)
