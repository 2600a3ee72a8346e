-- Rising entries: where an index stands, and what one more entry leaves; entries as numbers.
use Rattle.std.proofs.Common.{◌≡◌, ℕ, zero, suc, ◌<◌, ◌≤◌, Bool, true, false, List, [], ◌∷◌, length, map, get_or, set, refl, ap, sym, ◌∙◌, subst, arith, ⊎_elim, Some, None}
use Rattle.std.specs.Prelude.{◌==◌, nat_lt, if◌then◌else◌, slice_get, is_some, ltb}
use Rattle.std.specs.List.{AllByRecursion, insert}
use Rattle.std.specs.List.Sorted.{IsNonDecreasingBy, IsPartitionPoint}
use Rattle.std.proofs.lemmas.Bool.{eq-eqb, ne_eqb, ltb-true, ltb-false, lt-ltb, le-ltb, cases_lt, cond-true, cond-false, cases_eq}
use Rattle.smt_terms.specs.Values.{element_in, placed}
use Rattle.smt_values.specs.Arrays.{Entry, entry_at, element_of, pair_of, AreRising, entered, matching, Splits}
use Rattle.cnf_base.proofs.Lists.{each_get_or, each_slice_get}

-- ---- each entry

pub all_from : (P : Entry → Type 0) (es : List Entry) → ((k : ℕ) (d : Entry) → k < length es → P (get_or es k d)) → AllByRecursion P es
all_from P [] h = tt
all_from P (e ∷ es) h = (h zero e (omega arith), all_from P es (λ k d lt. h (suc k) d (omega arith)))

-- ---- where an index stands

nondecreasing : (es : List Entry) → AreRising es → (i j : ℕ) (d : Entry) → i ≤ j → j < length es → (get_or es i d).0.value ≤ (get_or es j d).0.value
nondecreasing [] r i j d le lt = absurd (omega arith)
nondecreasing (e ∷ es) r zero zero d le lt = omega arith
nondecreasing (e ∷ es) r zero (suc j) d le lt =
    let h : e.0.value < (get_or es j d).0.value = each_get_or (λ f. e.0.value < f.0.value) es r.0 j d (omega arith) in omega arith
nondecreasing (e ∷ es) r (suc i) zero d le lt = absurd (omega arith)
nondecreasing (e ∷ es) r (suc i) (suc j) d le lt = nondecreasing es r.1 i j d (omega arith) (omega arith)

pub rising_nondecreasing : (es : List Entry) → AreRising es → IsNonDecreasingBy (λ e. e.0.value) es
rising_nondecreasing es r = nondecreasing es r

pub splits_at : (es : List Entry) (i p : ℕ) → p ≤ length es → IsPartitionPoint (λ e. ltb e.0.value i ≡ true) (λ e. ltb e.0.value i ≡ false) es p → Splits es i p
splits_at es i zero le h = all_from (λ e. i ≤ e.0.value) es (λ k d lt. ltb-false (get_or es k d).0.value i (h.1 k d (omega arith) lt))
splits_at [] i (suc p) le h = absurd (omega arith)
splits_at (e ∷ es) i (suc p) le h = (ltb-true e.0.value i (h.0 zero e (omega arith) (omega arith)), splits_at es i p (omega arith) (λ k d a b. h.0 (suc k) d (omega arith) (omega arith), λ k d a b. h.1 (suc k) d (omega arith) (omega arith)))

-- ---- what is found there

pub above : (i k : ℕ) → i ≤ k → (es : List Entry) → AllByRecursion (λ f. k < f.0.value) es → AllByRecursion (λ f. i < f.0.value) es
above i k le [] h = tt
above i k le (f ∷ es) h = (omega (arith, h.0), above i k le es h.1)

pub passed : (e : Entry) (es : List Entry) (i : ℕ) → (e.0.value ≡ i → ⊥) → entry_at (e ∷ es) i ≡ entry_at es i
passed e es i ne = cond-false (e.0.value == i) (Some e) (entry_at es i) (ne_eqb e.0.value i ne)

pub met : (e : Entry) (es : List Entry) (i : ℕ) → e.0.value ≡ i → entry_at (e ∷ es) i ≡ Some e
met e es i p = cond-true (e.0.value == i) (Some e) (entry_at es i) (eq-eqb e.0.value i p)

pub absent : (es : List Entry) (i : ℕ) → AllByRecursion (λ e. i < e.0.value) es → entry_at es i ≡ None
absent [] i h = refl
absent (e ∷ es) i h =
    let ne : e.0.value ≡ i → ⊥ = omega (arith, h.0) in
    passed e es i ne ∙ absent es i h.1

pub at_place : (es : List Entry) (i p : ℕ) → AreRising es → Splits es i p → entry_at es i ≡ matching i (slice_get es p)
at_place [] i p r s = refl
at_place (e ∷ es) i zero r s = ap (λ z. if e.0.value == i then Some e else z) (absent es i (above i e.0.value s.0 es r.0))
at_place (e ∷ es) i (suc p) r s =
    let ne : e.0.value ≡ i → ⊥ = omega (arith, s.0) in
    passed e es i ne ∙ at_place es i p r.1 s.1

-- the entry at a place is that of its index
pub at_own : (es : List Entry) (k : ℕ) (f : Entry) → AreRising es → slice_get es k ≡ Some f → entry_at es f.0.value ≡ Some f
at_own [] k f r g = let q : ⊥ = cc in absurd q
at_own (e ∷ es) zero f r g = let q : e ≡ f = cc in met e es f.0.value (ap (λ x. x.0.value) q) ∙ g
at_own (e ∷ es) (suc k) f r g =
    let less : e.0.value < f.0.value = each_slice_get (λ x. e.0.value < x.0.value) es k f r.0 g in
    let ne : e.0.value ≡ f.0.value → ⊥ = omega arith in
    passed e es f.0.value ne ∙ at_own es k f r.1 g

pub found_is : (es : List Entry) (i p : ℕ) (e : Entry) → AreRising es → Splits es i p → slice_get es p ≡ Some e → e.0.value ≡ i → Some e ≡ entry_at es i
found_is es i p e r s g k = sym (at_place es i p r s ∙ ap (matching i) g ∙ cond-true (e.0.value == i) (Some e) None (eq-eqb e.0.value i k))

pub other_is : (es : List Entry) (i p : ℕ) (e : Entry) → AreRising es → Splits es i p → slice_get es p ≡ Some e → (e.0.value ≡ i → ⊥) → None ≡ entry_at es i
other_is es i p e r s g ne = sym (at_place es i p r s ∙ ap (matching i) g ∙ cond-false (e.0.value == i) (Some e) None (ne_eqb e.0.value i ne))

pub none_is : (es : List Entry) (i p : ℕ) → AreRising es → Splits es i p → slice_get es p ≡ None → None ≡ entry_at es i
none_is es i p r s g = sym (at_place es i p r s ∙ ap (matching i) g)

pub entry_holds : (P : Entry → Type 0) (es : List Entry) → AllByRecursion P es → (i : ℕ) (e : Entry) → entry_at es i ≡ Some e → P e
entry_holds P [] h i e g = let q : ⊥ = cc in absurd q
entry_holds P (x ∷ es) h i e g = ⊎_elim
    (λ here. let same : x ≡ e = (let m = met x es i here in cc) in subst P same h.0)
    (λ there. entry_holds P es h.1 i e (sym (passed x es i there) ∙ g))
    (cases_eq x.0.value i)

pub within : (es : List Entry) (i p : ℕ) → is_some (matching i (slice_get es p)) ≡ true → p < length es
within [] i p h = let q : ⊥ = cc in absurd q
within (e ∷ es) i zero h = omega arith
within (e ∷ es) i (suc p) h = let lt = within es i p h in omega arith

-- ---- one more entry

module _ (f : Entry) where
  entered_met : (e : Entry) (es : List Entry) → e.0.value ≡ f.0.value → entered (e ∷ es) f ≡ f ∷ es
  entered_met e es p = cond-true (e.0.value == f.0.value) (f ∷ es) (if nat_lt f.0.value e.0.value then f ∷ e ∷ es else e ∷ entered es f) (eq-eqb e.0.value f.0.value p)

  entered_before : (e : Entry) (es : List Entry) → f.0.value < e.0.value → entered (e ∷ es) f ≡ f ∷ e ∷ es
  entered_before e es lt =
      let ne : e.0.value ≡ f.0.value → ⊥ = omega arith in
      cond-false (e.0.value == f.0.value) (f ∷ es) (if nat_lt f.0.value e.0.value then f ∷ e ∷ es else e ∷ entered es f) (ne_eqb e.0.value f.0.value ne)
      ∙ cond-true (nat_lt f.0.value e.0.value) (f ∷ e ∷ es) (e ∷ entered es f) (lt-ltb f.0.value e.0.value lt)

  entered_after : (e : Entry) (es : List Entry) → e.0.value < f.0.value → entered (e ∷ es) f ≡ e ∷ entered es f
  entered_after e es lt =
      let ne : e.0.value ≡ f.0.value → ⊥ = omega arith in
      cond-false (e.0.value == f.0.value) (f ∷ es) (if nat_lt f.0.value e.0.value then f ∷ e ∷ es else e ∷ entered es f) (ne_eqb e.0.value f.0.value ne)
      ∙ cond-false (nat_lt f.0.value e.0.value) (f ∷ e ∷ es) (e ∷ entered es f) (le-ltb f.0.value e.0.value (omega arith))

  -- in the place of the entry that held the index
  pub entered_set : (es : List Entry) (p : ℕ) → Splits es f.0.value p → is_some (matching f.0.value (slice_get es p)) ≡ true → set es p f ≡ entered es f
  entered_set [] p s h = let q : ⊥ = cc in absurd q
  entered_set (e ∷ es) zero s h = ⊎_elim
      (λ same. sym (entered_met e es same))
      (λ ne. let m = ap is_some (cond-false (e.0.value == f.0.value) (Some e) None (ne_eqb e.0.value f.0.value ne)) in let q : ⊥ = cc in absurd q)
      (cases_eq e.0.value f.0.value)
  entered_set (e ∷ es) (suc p) s h = ap (λ x. e ∷ x) (entered_set es p s.1 h) ∙ sym (entered_after e es s.0)

  -- where no entry held it
  pub entered_insert : (es : List Entry) (p : ℕ) → Splits es f.0.value p → is_some (matching f.0.value (slice_get es p)) ≡ false → insert es p f ≡ entered es f
  entered_insert [] zero s h = refl
  entered_insert [] (suc p) s h = absurd s
  entered_insert (e ∷ es) zero s h = ⊎_elim
      (λ same. let m = ap is_some (cond-true (e.0.value == f.0.value) (Some e) None (eq-eqb e.0.value f.0.value same)) in let q : ⊥ = cc in absurd q)
      (λ ne. let lt : f.0.value < e.0.value = omega (arith, s.0) in sym (entered_before e es lt))
      (cases_eq e.0.value f.0.value)
  entered_insert (e ∷ es) (suc p) s h = ap (λ x. e ∷ x) (entered_insert es p s.1 h) ∙ sym (entered_after e es s.0)

  entered_all_go : (P : Entry → Type 0) (e : Entry) (es : List Entry) → P f → P e → AllByRecursion P es → AllByRecursion P (entered es f) → (a b : Bool) → AllByRecursion P (if a then f ∷ es else if b then f ∷ e ∷ es else e ∷ entered es f)
  entered_all_go P e es pf pe all rest true b = (pf, all)
  entered_all_go P e es pf pe all rest false true = (pf, (pe, all))
  entered_all_go P e es pf pe all rest false false = (pe, rest)

  pub entered_all : (P : Entry → Type 0) (es : List Entry) → P f → AllByRecursion P es → AllByRecursion P (entered es f)
  entered_all P [] pf h = (pf, tt)
  entered_all P (e ∷ es) pf h = entered_all_go P e es pf h.0 h.1 (entered_all P es pf h.1) (e.0.value == f.0.value) (nat_lt f.0.value e.0.value)

  pub entered_rising : (es : List Entry) → AreRising es → AreRising (entered es f)
  entered_rising [] r = (tt, tt)
  entered_rising (e ∷ es) r = ⊎_elim
      (λ same. subst AreRising (sym (entered_met e es same)) (above f.0.value e.0.value (omega arith) es r.0, r.1))
      (λ ne. ⊎_elim
      (λ lt. subst AreRising (sym (entered_before e es lt)) ((lt, above f.0.value e.0.value (omega arith) es r.0), r))
      (λ le. let gt : e.0.value < f.0.value = omega arith in subst AreRising (sym (entered_after e es gt)) (entered_all (λ x. e.0.value < x.0.value) es gt r.0, entered_rising es r.1))
      (cases_lt f.0.value e.0.value))
      (cases_eq e.0.value f.0.value)

-- ---- entries as numbers

-- the element at an index is that of its entry, or the default
pub element_by_entry : (d : ℕ) (es : List Entry) (i : ℕ) → element_in d (map pair_of es) i ≡ element_of d (entry_at es i)
element_by_entry d [] i = refl
element_by_entry d (e ∷ es) i = go (e.0.value == i) (element_by_entry d es i) where
  go : (b : Bool) → element_in d (map pair_of es) i ≡ element_of d (entry_at es i) → (if b then e.1.value else element_in d (map pair_of es) i) ≡ element_of d (if b then Some e else entry_at es i)
  go true ih = refl
  go false ih = ih

-- one more entry is one more pair of numbers
pub entered_pairs : (es : List Entry) (f : Entry) → map pair_of (entered es f) ≡ placed (map pair_of es) (pair_of f)
entered_pairs [] f = refl
entered_pairs (e ∷ es) f = go (e.0.value == f.0.value) (nat_lt f.0.value e.0.value) (entered_pairs es f) where
  go : (b c : Bool) → map pair_of (entered es f) ≡ placed (map pair_of es) (pair_of f) → map pair_of (if b then f ∷ es else if c then f ∷ e ∷ es else e ∷ entered es f) ≡ (if b then pair_of f ∷ map pair_of es else if c then pair_of f ∷ pair_of e ∷ map pair_of es else pair_of e ∷ placed (map pair_of es) (pair_of f))
  go true c ih = refl
  go false true ih = refl
  go false false ih = ap (λ l. pair_of e ∷ l) ih
