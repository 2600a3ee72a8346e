-- Rows of rising terms: where a term stands, and what one more leaves.
use Rattle.std.proofs.Common.{◌≡◌, ℕ, zero, suc, ◌<◌, ◌≤◌, Bool, true, false, List, [], ◌∷◌, length, get_or, refl, ap, sym, ◌∙◌, arith, Option, Some, None}
use Rattle.std.specs.Prelude.{◌==◌, if◌then◌else◌, slice_get, ltb}
use Rattle.std.specs.List.{AllByRecursion, insert}
use Rattle.std.specs.List.Sorted.{IsNonDecreasingBy, IsPartitionPoint}
use Rattle.std.proofs.lemmas.Bool.{eq-eqb, ne_eqb, eqb-true, ltb-true, ltb-false, cond-true, cond-false}
use Rattle.proof_log.specs.Pairs.{kept_for, AreRising, Splits}

module _ {V : Type 0} where
  each_at : (P : ℕ × V → Type 0) (es : List (ℕ × V)) → AllByRecursion P es → (k : ℕ) (d : ℕ × V) → k < length es → P (get_or es k d)
  each_at P [] h k d lt = absurd (omega arith)
  each_at P (e ∷ es) h zero d lt = h.0
  each_at P (e ∷ es) h (suc k) d lt = each_at P es h.1 k d (omega arith)

  all_from : (P : ℕ × V → Type 0) (es : List (ℕ × V)) → ((k : ℕ) (d : ℕ × V) → k < length es → P (get_or es k d)) → AllByRecursion P es
  all_from P [] h = tt
  all_from P (e ∷ es) h = (h zero e (omega arith), all_from P es (λ k d lt. h (suc k) d (omega arith)))

  nondecreasing : (es : List (ℕ × V)) → AreRising es → (i j : ℕ) (d : ℕ × V) → i ≤ j → j < length es → (get_or es i d).0 ≤ (get_or es j d).0
  nondecreasing [] r i j d le lt = absurd (omega arith)
  nondecreasing (e ∷ es) r zero zero d le lt = omega arith
  nondecreasing (e ∷ es) r zero (suc j) d le lt =
      let h : e.0 < (get_or es j d).0 = each_at (λ f. e.0 < f.0) es r.0 j d (omega arith) in omega arith
  nondecreasing (e ∷ es) r (suc i) zero d le lt = absurd (omega arith)
  nondecreasing (e ∷ es) r (suc i) (suc j) d le lt = nondecreasing es r.1 i j d (omega arith) (omega arith)

  pub rising_nondecreasing : (es : List (ℕ × V)) → AreRising es → IsNonDecreasingBy (λ (e : ℕ × V). e.0) es
  rising_nondecreasing es r = nondecreasing es r

  pub splits_at : (es : List (ℕ × V)) (t p : ℕ) → p ≤ length es → IsPartitionPoint (λ (e : ℕ × V). ltb e.0 t ≡ true) (λ (e : ℕ × V). ltb e.0 t ≡ false) es p → Splits es t p
  splits_at es t zero le h = all_from (λ e. t ≤ e.0) es (λ k d lt. ltb-false (get_or es k d).0 t (h.1 k d (omega arith) lt))
  splits_at [] t (suc p) le h = absurd (omega arith)
  splits_at (e ∷ es) t (suc p) le h = (ltb-true e.0 t (h.0 zero e (omega arith) (omega arith)), splits_at es t p (omega arith) (λ k d a b. h.0 (suc k) d (omega arith) (omega arith), λ k d a b. h.1 (suc k) d (omega arith) (omega arith)))

  -- ---- what is found

  met : (e : ℕ × V) (es : List (ℕ × V)) (t : ℕ) → t ≡ e.0 → kept_for (e ∷ es) t ≡ Some e.1
  met e es t p = cond-true (t == e.0) (Some e.1) (kept_for es t) (eq-eqb t e.0 p)

  passed : (e : ℕ × V) (es : List (ℕ × V)) (t : ℕ) → (t ≡ e.0 → ⊥) → kept_for (e ∷ es) t ≡ kept_for es t
  passed e es t ne = cond-false (t == e.0) (Some e.1) (kept_for es t) (ne_eqb t e.0 ne)

  absent : (es : List (ℕ × V)) (t : ℕ) → AllByRecursion (λ e. t < e.0) es → kept_for es t ≡ None
  absent [] t h = refl
  absent (e ∷ es) t h =
      let ne : t ≡ e.0 → ⊥ = omega (arith, h.0) in
      passed e es t ne ∙ absent es t h.1

  above : (t k : ℕ) → t ≤ k → (es : List (ℕ × V)) → AllByRecursion (λ f. k < f.0) es → AllByRecursion (λ f. t < f.0) es
  above t k le [] h = tt
  above t k le (f ∷ es) h = (omega (arith, h.0), above t k le es h.1)

  -- what stands at the place, if it is the term
  abbrev matching : ℕ → Option (ℕ × V) → Option V
  matching t None = None
  matching t (Some e) = if t == e.0 then Some e.1 else None

  at_place : (es : List (ℕ × V)) (t p : ℕ) → AreRising es → Splits es t p → kept_for es t ≡ matching t (slice_get es p)
  at_place [] t zero r s = refl
  at_place [] t (suc p) r s = absurd s
  at_place (e ∷ es) t zero r s = ap (λ z. if t == e.0 then Some e.1 else z) (absent es t (above t e.0 s.0 es r.0))
  at_place (e ∷ es) t (suc p) r s =
      let ne : t ≡ e.0 → ⊥ = omega (arith, s.0) in
      passed e es t ne ∙ at_place es t p r.1 s.1

  pub found_is : (es : List (ℕ × V)) (t p : ℕ) (e : ℕ × V) → AreRising es → Splits es t p → slice_get es p ≡ Some e → e.0 ≡ t → Some e.1 ≡ kept_for es t
  found_is es t p e r s g k = sym (at_place es t p r s ∙ ap (matching t) g ∙ cond-true (t == e.0) (Some e.1) None (eq-eqb t e.0 (sym k)))

  pub other_is : (es : List (ℕ × V)) (t p : ℕ) (e : ℕ × V) → AreRising es → Splits es t p → slice_get es p ≡ Some e → (e.0 ≡ t → ⊥) → None ≡ kept_for es t
  other_is es t p e r s g ne = sym (at_place es t p r s ∙ ap (matching t) g ∙ cond-false (t == e.0) (Some e.1) None (ne_eqb t e.0 (λ q. ne (sym q))))

  pub none_is : (es : List (ℕ × V)) (t p : ℕ) → AreRising es → Splits es t p → slice_get es p ≡ None → None ≡ kept_for es t
  none_is es t p r s g = sym (at_place es t p r s ∙ ap (matching t) g)

  -- ---- one more

  -- a term that is not kept is none of these
  unlike : (e : ℕ × V) (es : List (ℕ × V)) (t : ℕ) → kept_for (e ∷ es) t ≡ None → t ≡ e.0 → ⊥
  unlike e es t none same = let q : Some e.1 ≡ None = sym (met e es t same) ∙ none in cc

  -- where it is put, it is found, and the others as before
  pub inserted : (f : ℕ × V) (es : List (ℕ × V)) (p : ℕ) → kept_for es f.0 ≡ None → (t : ℕ) → kept_for (insert es p f) t ≡ kept_for (f ∷ es) t
  inserted f es zero none t = refl
  inserted f [] (suc p) none t = refl
  inserted f (e ∷ es) (suc p) none t =
      let ne = unlike e es f.0 none in
      let rest = inserted f es p (sym (passed e es f.0 ne) ∙ none) t in
      ap (λ z. if t == e.0 then Some e.1 else z) rest ∙ swap (t == e.0) (t == f.0) refl refl
    where
      swap : (b c : Bool) → (t == e.0) ≡ b → (t == f.0) ≡ c → (if b then Some e.1 else (if c then Some f.1 else kept_for es t)) ≡ (if c then Some f.1 else (if b then Some e.1 else kept_for es t))
      swap true true p q = absurd (unlike e es f.0 none (sym (eqb-true t f.0 q) ∙ eqb-true t e.0 p))
      swap true false p q = refl
      swap false true p q = refl
      swap false false p q = refl

  each_inserted : (P : ℕ × V → Type 0) (f : ℕ × V) (es : List (ℕ × V)) (p : ℕ) → P f → AllByRecursion P es → AllByRecursion P (insert es p f)
  each_inserted P f es zero pf h = (pf, h)
  each_inserted P f [] (suc p) pf h = (pf, tt)
  each_inserted P f (e ∷ es) (suc p) pf h = (h.0, each_inserted P f es p pf h.1)

  -- not below, and none of them, so above
  strict : (t : ℕ) (es : List (ℕ × V)) → kept_for es t ≡ None → AllByRecursion (λ e. t ≤ e.0) es → AllByRecursion (λ e. t < e.0) es
  strict t [] none h = tt
  strict t (e ∷ es) none h =
      let ne = unlike e es t none in
      let lt : t < e.0 = omega (arith, h.0, ne) in
      (lt, strict t es (sym (passed e es t ne) ∙ none) h.1)

  pub inserted_rising : (f : ℕ × V) (es : List (ℕ × V)) (p : ℕ) → kept_for es f.0 ≡ None → AreRising es → Splits es f.0 p → AreRising (insert es p f)
  inserted_rising f es zero none r s = (strict f.0 es none s, r)
  inserted_rising f [] (suc p) none r s = absurd s
  inserted_rising f (e ∷ es) (suc p) none r s =
      (each_inserted (λ x. e.0 < x.0) f es p s.0 r.0, inserted_rising f es p (sym (passed e es f.0 (unlike e es f.0 none)) ∙ none) r.1 s.1)
