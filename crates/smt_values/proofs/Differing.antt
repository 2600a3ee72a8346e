-- The least index at which two arrays differ, from its parts.
use Rattle.std.proofs.Common.{◌≡◌, ℕ, zero, suc, ◌<◌, ◌^◌, Bool, true, false, not, ◌||◌, List, [], ◌∷◌, get_or, refl, ap, sym, ◌∙◌, subst, arith, ⊎_elim, Option, Some, None}
use Rattle.std.specs.Prelude.{◌==◌, nat_le, if◌then◌else◌, slice_get, is_some}
use Rattle.std.specs.List.{AllByRecursion}
use Rattle.std.proofs.lemmas.Bool.{eq-eqb, ne_eqb, cond-true, cond-false, cases_eq, cases_Bool, or_cases, or_parts, leb-true, leb-false, false_from_ne_true, not_from_true, not_from_false}
use Rattle.smt_words.specs.Words.{WordValue, word}
use Rattle.smt_terms.specs.Values.{all_below, first_below}
use Rattle.smt_terms.proofs.Arrays.{each_all_below, all_below_each, differ_not_all}
use Rattle.smt_values.specs.Arrays.{Entry, ArrayFields, entry_at, element_of, element_at, AreRising}
use Rattle.smt_values.specs.Differences.{agree, first_difference, holds, either_holds, IsFirstAmong, lesser, IsGap}
use Rattle.smt_values.proofs.Entries.{above, absent, passed, met, at_own, element_by_entry}

-- ---- the least number that passes a test

least_go : (p : ℕ → Bool) (n k : ℕ) → p k ≡ true → ((i : ℕ) → i < k → p i ≡ false) → k < suc n → (k < n → first_below p n ≡ k) → first_below p (suc n) ≡ k
unfolding first_below
least_go p n k here low lt ih = ⊎_elim
    (λ last.
    let all : all_below (λ i. not (p i)) n ≡ true = each_all_below (λ i. not (p i)) n (λ i less. not_from_false (p i) (low i (omega arith))) in
    cond-true (all_below (λ i. not (p i)) n) (if p n then n else 0) (first_below p n) all
    ∙ cond-true (p n) n 0 (subst (λ x. p x ≡ true) last here)
    ∙ sym last)
    (λ ne.
    let less : k < n = omega arith in
    let some : all_below (λ i. not (p i)) n ≡ false = false_from_ne_true (all_below (λ i. not (p i)) n) (λ all. let h = all_below_each (λ i. not (p i)) n all k less in let z = not_from_true (p k) here in let q : ⊥ = cc in q) in
    cond-false (all_below (λ i. not (p i)) n) (if p n then n else 0) (first_below p n) some ∙ ih less)
    (cases_eq k n)

pub first_below_least : (p : ℕ → Bool) (n k : ℕ) → k < n → p k ≡ true → ((i : ℕ) → i < k → p i ≡ false) → first_below p n ≡ k
first_below_least p zero k lt here low = absurd (omega arith)
first_below_least p (suc n) k lt here low = least_go p n k here low lt (λ less. first_below_least p n k less here low)

-- a difference that is the first among all indexes is the least
pub first_among_all : (a b : ArrayFields) (r : Option WordValue) → IsFirstAmong (λ i. true) a b r → r ≡ first_difference a b
first_among_all a b None h =
    let all : agree a b ≡ true = each_all_below (λ i. element_at a i == element_at b i) (2 ^ a.index) (λ i lt. eq-eqb (element_at a i) (element_at b i) (h i lt refl)) in
    sym (cond-true (agree a b) None (Some (word a.index (first_below (λ i. not (element_at a i == element_at b i)) (2 ^ a.index)))) all)
first_among_all a b (Some w) h =
    let some : agree a b ≡ false = differ_not_all (2 ^ a.index) (element_at a) (element_at b) w.value h.1 h.2 in
    let least : first_below (λ i. not (element_at a i == element_at b i)) (2 ^ a.index) ≡ w.value = first_below_least (λ i. not (element_at a i == element_at b i)) (2 ^ a.index) w.value h.1 (not_from_false (element_at a w.value == element_at b w.value) (ne_eqb (element_at a w.value) (element_at b w.value) h.2)) (λ i lt. not_from_true (element_at a i == element_at b i) (eq-eqb (element_at a i) (element_at b i) (h.3 i lt refl))) in
    let same : w ≡ word a.index (first_below (λ i. not (element_at a i == element_at b i)) (2 ^ a.index)) = (λ j. record { width = h.0 j; value = sym least j }) in
    ap Some same ∙ sym (cond-false (agree a b) None (Some (word a.index (first_below (λ i. not (element_at a i == element_at b i)) (2 ^ a.index)))) some)

-- ---- entries

-- an index that is held has the element of one of the entries
pub held_agrees : (es : List Entry) (g : ℕ → ℕ) → AllByRecursion (λ e. g e.0.value ≡ e.1.value) es → (i d : ℕ) → holds es i ≡ true → element_of d (entry_at es i) ≡ g i
held_agrees [] g h i d held = let q : ⊥ = cc in absurd q
held_agrees (e ∷ es) g h i d held = ⊎_elim
    (λ here. ap (element_of d) (met e es i here) ∙ sym h.0 ∙ ap g here)
    (λ there. ap (element_of d) (passed e es i there) ∙ held_agrees es g h.1 i d (ap is_some (sym (passed e es i there)) ∙ held))
    (cases_eq e.0.value i)

-- the same below an entry, where the entries before it agree
pub before_agrees : (es : List Entry) (g : ℕ → ℕ) (k : ℕ) (f : Entry) → AreRising es → slice_get es k ≡ Some f → ((j : ℕ) (d : Entry) → j < k → g (get_or es j d).0.value ≡ (get_or es j d).1.value) → (i d : ℕ) → i < f.0.value → holds es i ≡ true → element_of d (entry_at es i) ≡ g i
before_agrees [] g k f r s h i d lt held = let q : ⊥ = cc in absurd q
before_agrees (e ∷ es) g zero f r s h i d lt held =
    let same : e ≡ f = cc in
    let less : i < e.0.value = subst (λ x. i < x.0.value) (sym same) lt in
    let ne : e.0.value ≡ i → ⊥ = omega arith in
    let none = passed e es i ne ∙ absent es i (above i e.0.value (omega arith) es r.0) in
    let q : ⊥ = (let z = ap is_some none in cc) in absurd q
before_agrees (e ∷ es) g (suc k) f r s h i d lt held = ⊎_elim
    (λ here. ap (element_of d) (met e es i here) ∙ sym (h zero e (omega arith)) ∙ ap g here)
    (λ there. ap (element_of d) (passed e es i there) ∙ before_agrees es g k f r.1 s (λ j x less. h (suc j) x (omega arith)) i d lt (ap is_some (sym (passed e es i there)) ∙ held))
    (cases_eq e.0.value i)

-- all entries of the first array agree with the second
pub none_among : (a b : ArrayFields) → AllByRecursion (λ e. element_at b e.0.value ≡ e.1.value) a.entries → IsFirstAmong (holds a.entries) a b None
none_among a b h = λ i lt held. element_by_entry a.default.value a.entries i ∙ held_agrees a.entries (element_at b) h i a.default.value held

-- an entry that does not, where those before it do
pub some_among : (a b : ArrayFields) (k : ℕ) (f : Entry) → AreRising a.entries → slice_get a.entries k ≡ Some f → f.0.width ≡ a.index → f.0.value < 2 ^ a.index → ((j : ℕ) (d : Entry) → j < k → element_at b (get_or a.entries j d).0.value ≡ (get_or a.entries j d).1.value) → (element_at b f.0.value ≡ f.1.value → ⊥) → IsFirstAmong (holds a.entries) a b (Some f.0)
some_among a b k f r s width fits before ne = (
  width,
  fits,
  (λ q. ne (sym q ∙ element_by_entry a.default.value a.entries f.0.value ∙ ap (element_of a.default.value) (at_own a.entries k f r s))),
  λ i lt held. element_by_entry a.default.value a.entries i ∙ before_agrees a.entries (element_at b) k f r s before i a.default.value lt held,
)

-- ---- two arrays

pub turned : (q : ℕ → Bool) (a b : ArrayFields) → b.index ≡ a.index → (r : Option WordValue) → IsFirstAmong q b a r → IsFirstAmong q a b r
turned q a b e None h = λ i lt t. sym (h i (subst (λ n. i < 2 ^ n) (sym e) lt) t)
turned q a b e (Some w) h = (h.0 ∙ e, subst (λ n. w.value < 2 ^ n) e h.1, (λ p. h.2 (sym p)), λ i lt t. sym (h.3 i lt t))

pub joined : (q s : ℕ → Bool) (a b : ArrayFields) (x y : Option WordValue) → IsFirstAmong q a b x → IsFirstAmong s a b y → IsFirstAmong (λ i. q i || s i) a b (lesser x y)
joined q s a b None None h k = λ i lt t. ⊎_elim (h i lt) (k i lt) (or_cases (q i) (s i) t)
joined q s a b None (Some w) h k = (k.0, k.1, k.2, λ i lt t. ⊎_elim (h i (omega (arith, k.1))) (k.3 i lt) (or_cases (q i) (s i) t))
joined q s a b (Some v) None h k = (h.0, h.1, h.2, λ i lt t. ⊎_elim (h.3 i lt) (k i (omega (arith, h.1))) (or_cases (q i) (s i) t))
joined q s a b (Some v) (Some w) h k = go (nat_le v.value w.value) refl where
  go : (c : Bool) → nat_le v.value w.value ≡ c → IsFirstAmong (λ i. q i || s i) a b (if c then Some v else Some w)
  go true e = let le = leb-true v.value w.value e in (h.0, h.1, h.2, λ i lt t. ⊎_elim (h.3 i lt) (k.3 i (omega arith)) (or_cases (q i) (s i) t))
  go false e = let less = leb-false v.value w.value e in (k.0, k.1, k.2, λ i lt t. ⊎_elim (h.3 i (omega arith)) (k.3 i lt) (or_cases (q i) (s i) t))

-- an index that is not held has the default
unheld : (d : ℕ) (o : Option Entry) → is_some o ≡ false → element_of d o ≡ d
unheld d None e = refl
unheld d (Some f) e = let q : ⊥ = cc in absurd q

default_there : (a : ArrayFields) (i : ℕ) → holds a.entries i ≡ false → element_at a i ≡ a.default.value
default_there a i none = element_by_entry a.default.value a.entries i ∙ unheld a.default.value (entry_at a.entries i) none

-- where the defaults are the same, only held indexes count
pub same_defaults : (a b : ArrayFields) (r : Option WordValue) → a.default.value ≡ b.default.value → IsFirstAmong (either_holds a b) a b r → IsFirstAmong (λ i. true) a b r
same_defaults a b r e h = go r h where
  apart : (i : ℕ) → either_holds a b i ≡ false → element_at a i ≡ element_at b i
  apart i none =
      let p = or_parts (holds a.entries i) (holds b.entries i) none in
      default_there a i p.0 ∙ e ∙ sym (default_there b i p.1)

  go : (o : Option WordValue) → IsFirstAmong (either_holds a b) a b o → IsFirstAmong (λ i. true) a b o
  go None k = λ i lt t. ⊎_elim (k i lt) (apart i) (cases_Bool (either_holds a b i))
  go (Some w) k = (k.0, k.1, k.2, λ i lt t. ⊎_elim (k.3 i lt) (apart i) (cases_Bool (either_holds a b i)))

-- where they are not, the first gap counts too
pub other_defaults : (a b : ArrayFields) (x y : Option WordValue) → (a.default.value ≡ b.default.value → ⊥) → IsFirstAmong (either_holds a b) a b x → IsGap a b y → IsFirstAmong (λ i. true) a b (lesser x y)
other_defaults a b x y ne h k = all (lesser x y) (joined (either_holds a b) (λ i. not (either_holds a b i)) a b x y h (gap y k)) where
  both : (i : ℕ) → either_holds a b i ≡ true → not (either_holds a b i) ≡ true → element_at a i ≡ element_at b i
  both i p t = let z = not_from_true (either_holds a b i) p in let q : ⊥ = cc in absurd q

  gap : (o : Option WordValue) → IsGap a b o → IsFirstAmong (λ i. not (either_holds a b i)) a b o
  gap None g = λ i lt t. both i (g i lt) t
  gap (Some w) g =
      let p = or_parts (holds a.entries w.value) (holds b.entries w.value) g.2 in
      (g.0, g.1, (λ e. ne (sym (default_there a w.value p.0) ∙ e ∙ default_there b w.value p.1)), λ i lt t. both i (g.3 i lt) t)

  covered : (c : Bool) → (c || not c) ≡ true
  covered true = refl
  covered false = refl

  all : (o : Option WordValue) → IsFirstAmong (λ i. either_holds a b i || not (either_holds a b i)) a b o → IsFirstAmong (λ i. true) a b o
  all None m = λ i lt t. m i lt (covered (either_holds a b i))
  all (Some w) m = (m.0, m.1, m.2, λ i lt t. m.3 i lt (covered (either_holds a b i)))

-- no difference is found exactly where the arrays agree
pub none_is_agree : (a b : ArrayFields) → not (is_some (first_difference a b)) ≡ agree a b
none_is_agree a b = go (agree a b) (word a.index (first_below (λ i. not (element_at a i == element_at b i)) (2 ^ a.index))) where
  go : (c : Bool) (w : WordValue) → not (is_some (if c then None else Some w)) ≡ c
  go true w = refl
  go false w = refl

pub opposite : (r c : Bool) → c ≡ not r → r ≡ not c
opposite true c e = ap not (sym e)
opposite false c e = ap not (sym e)
