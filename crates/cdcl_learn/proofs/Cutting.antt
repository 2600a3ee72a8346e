-- The trail before a literal became true, with its opposite decided.
use Rattle.std.proofs.Common.{ℕ, ◌≡◌, ◌≢◌, ◌+◌, ◌<◌, ◌++◌, Bool, true, false, not, List, [], ◌∷◌, Some, None, length, take, refl, sym, ap, ◌∙◌, inl, inr, arith}
use Rattle.std.specs.Prelude.{Contains}
use Rattle.std.proofs.lemmas.Bool.{cases_lt}
use Rattle.std.proofs.lemmas.List.{get_or-take, get_or_append_left, get_or_push, length-take-le, length_push}
use Rattle.cnf_base.specs.Literals.{Literal, negated}
use Rattle.cnf_base.specs.declared.clause.ClauseId.{ClauseId}
use Rattle.cnf_base.proofs.Codes.{negated-negated, same_literal_or_not}
use Rattle.hint_chain.specs.Chains.{Lookup, IsChain}
use Rattle.cdcl_core.specs.Levels.{Row}
use Rattle.cdcl_core.specs.State.{no_row}
use Rattle.cdcl_learn.specs.Rows.{row_at, literal_at, reason_at, IsFalseBefore, IsFrontOf, IsHistory, IsRefutedIn}
use Rattle.cdcl_learn.specs.Puts.{DecidesOnly, IsAgainst}
use Rattle.cdcl_learn.proofs.Lists.{member_cases}
use Rattle.cdcl_learn.proofs.Derivations.{nothing}
use Rattle.cnf_base.proofs.Lists.{Contains-nil, Contains-first, Contains-later}

module _ (look : Lookup) (rows cut : List Row) (place level : ℕ) (l : Literal) (history : IsHistory look rows) (within : place < length rows) (opposite : literal_at rows place ≡ negated l) (is : cut ≡ take place rows ++ (l, level, None) ∷ []) where
  front : length (take place rows) ≡ place
  front = length-take-le place rows (omega (arith, within))

  size : length cut ≡ place + 1
  size = rw is (omega (arith, length_push (take place rows) (l, level, None), front))

  before : (i : ℕ) → i < place → row_at cut i ≡ row_at rows i
  before i h = rw is (get_or_append_left (take place rows) ((l, level, None) ∷ []) no_row i (rw front h) ∙ get_or-take place rows i no_row h)

  at_end : row_at cut place ≡ (l, level, None)
  at_end = rw is (get_or_push (take place rows) (l, level, None) no_row place front)

  literal_before : (i : ℕ) → i < place → literal_at cut i ≡ literal_at rows i
  literal_before i h = ap (λ (r : Row). r.0) (before i h)

  literal_end : literal_at cut place ≡ l
  literal_end = ap (λ (r : Row). r.0) at_end

  pub cut_front : IsFrontOf rows cut
  cut_front i h = (omega (arith, h, size, within), literal_before i (omega (arith, h, size)))

  -- the literal and its opposite do not stand before the place
  not_opposite : (i : ℕ) → i < place → literal_at rows i ≢ negated l
  not_opposite i h e = omega (arith, h, history.once i place (omega (arith, h, within)) within (e ∙ sym opposite))

  not_itself : (i : ℕ) → i < place → literal_at rows i ≢ l
  not_itself i h e = history.apart place i within (omega (arith, h, within)) (opposite ∙ ap negated (sym e))

  cut_once : (i k : ℕ) → i < length cut → k < length cut → literal_at cut i ≡ literal_at cut k → i ≡ k
  cut_once i k hi hk e = elim (cases_lt i place) [
    | inl a ↦ elim (cases_lt k place) [
      | inl b ↦ history.once i k (omega (arith, a, within)) (omega (arith, b, within)) (sym (literal_before i a) ∙ (e ∙ literal_before k b))
      | inr b ↦ let q : k ≡ place = omega (arith, b, hk, size) in absurd (not_itself i a (sym (literal_before i a) ∙ (e ∙ (ap (literal_at cut) q ∙ literal_end))))
    ]
    | inr a ↦ let p : i ≡ place = omega (arith, a, hi, size) in elim (cases_lt k place) [
      | inl b ↦ absurd (not_itself k b (sym (literal_before k b) ∙ (sym e ∙ (ap (literal_at cut) p ∙ literal_end))))
      | inr b ↦ omega (arith, p, b, hk, size)
    ]
  ]

  not_negated : (x : Literal) → x ≢ negated x
  not_negated x e = unlike x.positive (ap (λ (y : Literal). y.positive) e)
    where
      unlike : (b : Bool) → b ≡ not b → ⊥
      unlike true q = cc
      unlike false q = cc

  cut_apart : (i k : ℕ) → i < length cut → k < length cut → literal_at cut i ≢ negated (literal_at cut k)
  cut_apart i k hi hk e = elim (cases_lt i place) [
    | inl a ↦ elim (cases_lt k place) [
      | inl b ↦ history.apart i k (omega (arith, a, within)) (omega (arith, b, within)) (sym (literal_before i a) ∙ (e ∙ ap negated (literal_before k b)))
      | inr b ↦ let q : k ≡ place = omega (arith, b, hk, size) in not_opposite i a (sym (literal_before i a) ∙ (e ∙ ap negated (ap (literal_at cut) q ∙ literal_end)))
    ]
    | inr a ↦
        let p : i ≡ place = omega (arith, a, hi, size) in
        let mine : l ≡ negated (literal_at cut k) = sym (ap (literal_at cut) p ∙ literal_end) ∙ e in
        elim (cases_lt k place) [
          | inl b ↦ not_opposite k b (sym (literal_before k b) ∙ (sym (negated-negated (literal_at cut k)) ∙ ap negated (sym mine)))
          | inr b ↦ let q : k ≡ place = omega (arith, b, hk, size) in not_negated l (mine ∙ ap negated (ap (literal_at cut) q ∙ literal_end))
        ]
  ]

  cut_forced : (i : ℕ) (id : ClauseId) → i < length cut → reason_at cut i ≡ Some id →
      (c : List Literal) × ((look id ≡ Some c) × (Contains c (literal_at cut i) × ((m : Literal) → Contains c m → m ≢ literal_at cut i → IsFalseBefore cut i m)))
  cut_forced i id h e = elim (cases_lt i place) [
    | inr a ↦ let p : i ≡ place = omega (arith, a, h, size) in nothing id (sym (ap (λ (r : Row). r.2) (ap (row_at cut) p ∙ at_end)) ∙ e)
    | inl a ↦
        let f = history.forced i id (omega (arith, a, within)) (sym (ap (λ (r : Row). r.2) (before i a)) ∙ e) in
        let same : literal_at cut i ≡ literal_at rows i = literal_before i a in (
          f.0,
          (
            f.1.0,
            (
              rw same f.1.1.0,
              λ m mem ne.
                  let k : IsFalseBefore rows i m = f.1.1.1 m mem (λ q. ne (q ∙ sym same)) in
                  (k.0, (k.1.0, literal_before k.0 (omega (arith, k.1.0, a)) ∙ k.1.1)),
            ),
          ),
        )
  ]

  pub cut_history : IsHistory look cut
  cut_history = record { once = cut_once; apart = cut_apart; forced = cut_forced }

  -- the clause that forced the opposite is false there
  pub cut_refuted : (id : ClauseId) → reason_at rows place ≡ Some id → IsRefutedIn look cut id
  cut_refuted id e =
      let f = history.forced place id within e in (
        f.0,
        (
          f.1.0,
          λ m mem. elim (same_literal_or_not m (literal_at rows place)) [
            | inl y ↦ (place, (omega (arith, size), literal_end ∙ (sym (negated-negated l) ∙ ap negated (sym opposite ∙ sym y))))
            | inr y ↦
                let k : IsFalseBefore rows place m = f.1.1.1 m mem y in
                (k.0, (omega (arith, k.1.0, size), literal_before k.0 k.1.0 ∙ k.1.1))
          ],
        ),
      )

  pub cut_given : (given : List Literal) → DecidesOnly given rows → Contains given l → DecidesOnly given cut
  cut_given given only own i h e = elim (cases_lt i place) [
    | inl a ↦ let same : literal_at cut i ≡ literal_at rows i = literal_before i a in rw same (only i (omega (arith, a, within)) (sym (ap (λ (r : Row). r.2) (before i a)) ∙ e))
    | inr a ↦ let p : i ≡ place = omega (arith, a, h, size) in let same : literal_at cut i ≡ l = ap (literal_at cut) p ∙ literal_end in rw same own
  ]

-- a literal and its opposite
pub pair_chain : (look : Lookup) (l : Literal) → IsChain look (l ∷ negated l ∷ []) []
pair_chain look l = inl ((l, Contains-first l (negated l ∷ []), Contains-later l (negated l) (negated l ∷ []) (Contains-first (negated l) [])), refl)

pub pair_against : (given : List Literal) (l : Literal) → Contains given l → Contains given (negated l) → IsAgainst given (l ∷ negated l ∷ [])
pair_against given l own other x m = elim (member_cases l x (negated l ∷ []) m) [
  | inl e ↦ rw (← e) other
  | inr a ↦ elim (member_cases (negated l) x [] a) [
    | inl e ↦ let back : negated x ≡ l = ap negated (sym e) ∙ negated-negated l in rw back own
    | inr b ↦ absurd (Contains-nil x b)
  ]
]
