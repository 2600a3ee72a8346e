-- Arrays that differ differ at their witness, what a store leaves, and elements that are read at a width.
use Rattle.std.proofs.Common.{◌≡◌, ℕ, zero, suc, ◌%◌, ◌<◌, Bool, true, false, not, ◌&&◌, List, [], ◌∷◌, map, refl, sym, ap, ◌∙◌, subst, ⊎_elim, arith}
use Rattle.std.specs.Prelude.{◌==◌, nat_lt, if◌then◌else◌}
use Rattle.std.proofs.lemmas.Bool.{and_parts, cases_lt, eq-eqb, ne_eqb, not-false, not-true, eqb-true, and_from}
use Rattle.smt_terms.specs.Values.{Elements, element_in, held_at, placed, with_entry, reduced, elements_below, all_below, first_below}
use Rattle.std.proofs.Math.Bool.{not-not}
use Rattle.std.proofs.Math.Nat.{mod-lt}

pub all_below_each : (p : ℕ → Bool) (n : ℕ) → all_below p n ≡ true → (i : ℕ) → i < n → p i ≡ true
unfolding all_below
all_below_each p zero h i lt = absurd (omega arith)
all_below_each p (suc n) h i lt =
    let q = and_parts (all_below p n) (p n) h in
    ⊎_elim
    (λ less. all_below_each p n q.0 i less)
    (λ le. let e : n ≡ i = omega arith in subst (λ k. p k ≡ true) e q.1)
    (cases_lt i n)

pub each_all_below : (p : ℕ → Bool) (n : ℕ) → ((i : ℕ) → i < n → p i ≡ true) → all_below p n ≡ true
unfolding all_below
each_all_below p zero h = refl
each_all_below p (suc n) h = and_from (all_below p n) (p n) (each_all_below p n (λ i lt. h i (omega arith))) (h n (omega arith))

below_case : (p : ℕ → Bool) (n : ℕ) (b : Bool) → all_below (λ i. not (p i)) n ≡ b → (b && not (p n)) ≡ false → (b ≡ false → (first_below p n < n) × (p (first_below p n) ≡ true)) → (first_below p (suc n) < suc n) × (p (first_below p (suc n)) ≡ true)
unfolding all_below first_below
below_case p n true e h ih =
    let here : p n ≡ true = not-false (p n) h in
    let is : first_below p (suc n) ≡ n = ap (λ t. if t then (if p n then n else 0) else first_below p n) e ∙ ap (λ t. if t then n else 0) here in
    (omega (arith, is), ap p is ∙ here)
below_case p n false e h ih =
    let is : first_below p (suc n) ≡ first_below p n = ap (λ t. if t then (if p n then n else 0) else first_below p n) e in
    let k = ih refl in
    (omega (arith, is, k.0), ap p is ∙ k.1)

-- where the test holds somewhere, it holds at the least such number
pub first_below_is : (p : ℕ → Bool) (n : ℕ) → all_below (λ i. not (p i)) n ≡ false → (first_below p n < n) × (p (first_below p n) ≡ true)
unfolding all_below first_below
first_below_is p zero h = let q : ⊥ = cc in absurd q
first_below_is p (suc n) h = below_case p n (all_below (λ i. not (p i)) n) refl h (λ e. first_below_is p n e)

choice_le : (b c : Bool) (n k : ℕ) → k < suc n → (if b then (if c then n else 0) else k) < suc n
choice_le true true n k h = omega arith
choice_le true false n k h = omega arith
choice_le false c n k h = h

pub first_below_lt : (p : ℕ → Bool) (n : ℕ) → first_below p n < suc n
unfolding first_below
first_below_lt p zero = omega arith
first_below_lt p (suc n) = let h = choice_le (all_below (λ i. not (p i)) n) (p n) n (first_below p n) (first_below_lt p n) in omega arith

first_below_in-go : (p : ℕ → Bool) (n : ℕ) → first_below p (suc n) < suc n
unfolding first_below
first_below_in-go p n = choice_le (all_below (λ i. not (p i)) n) (p n) n (first_below p n) (first_below_lt p n)

pub first_below_in : (p : ℕ → Bool) (n : ℕ) → 0 < n → first_below p n < n
first_below_in p zero h = absurd (omega arith)
first_below_in p (suc n) h = first_below_in-go p n

pub all_below_same : (p q : ℕ → Bool) (n : ℕ) → ((i : ℕ) → p i ≡ q i) → all_below p n ≡ all_below q n
unfolding all_below
all_below_same p q zero h = refl
all_below_same p q (suc n) h = rw (all_below_same p q n h, h n) refl

-- ---- one element changed

met_case : (d : ℕ) (es : List (ℕ × ℕ)) (e f : ℕ × ℕ) (j : ℕ) → e.0 ≡ f.0 → (if f.0 == j then f.1 else element_in d es j) ≡ (if f.0 == j then f.1 else element_in d (e ∷ es) j)
met_case d es e f j same = go (f.0 == j) (e.0 == j) (ap (λ k. k == j) same) where
  go : (b c : Bool) → c ≡ b → (if b then f.1 else element_in d es j) ≡ (if b then f.1 else (if c then e.1 else element_in d es j))
  go true c h = refl
  go false true h = let z : ⊥ = cc in absurd z
  go false false h = refl

after_case : (d : ℕ) (es : List (ℕ × ℕ)) (e f : ℕ × ℕ) (j : ℕ) → (e.0 == f.0) ≡ false → (if e.0 == j then e.1 else (if f.0 == j then f.1 else element_in d es j)) ≡ (if f.0 == j then f.1 else element_in d (e ∷ es) j)
after_case d es e f j ne = go (e.0 == j) refl (f.0 == j) refl where
  go : (b : Bool) → (e.0 == j) ≡ b → (c : Bool) → (f.0 == j) ≡ c → (if b then e.1 else (if c then f.1 else element_in d es j)) ≡ (if c then f.1 else (if b then e.1 else element_in d es j))
  go true p true q =
      let same : e.0 ≡ f.0 = eqb-true e.0 j p ∙ sym (eqb-true f.0 j q) in
      let z : true ≡ false = sym (eq-eqb e.0 f.0 same) ∙ ne in
      let y : ⊥ = cc in absurd y
  go true p false q = refl
  go false p true q = refl
  go false p false q = refl

-- the elements with one entry more
pub at_placed : (d : ℕ) (es : List (ℕ × ℕ)) (f : ℕ × ℕ) (j : ℕ) → element_in d (placed es f) j ≡ (if f.0 == j then f.1 else element_in d es j)
at_placed d [] f j = refl
at_placed d (e ∷ es) f j = go (e.0 == f.0) refl (nat_lt f.0 e.0) (at_placed d es f j) where
  go : (b : Bool) → (e.0 == f.0) ≡ b → (c : Bool) → element_in d (placed es f) j ≡ (if f.0 == j then f.1 else element_in d es j) → element_in d (if b then f ∷ es else if c then f ∷ e ∷ es else e ∷ placed es f) j ≡ (if f.0 == j then f.1 else element_in d (e ∷ es) j)
  go true p c ih = met_case d es e f j (eqb-true e.0 f.0 p)
  go false p true ih = refl
  go false p false ih = ap (λ x. if e.0 == j then e.1 else x) ih ∙ after_case d es e f j p

pub stored_same : (a : Elements) (i x j : ℕ) → j ≡ i → held_at (with_entry a i x) j ≡ x
stored_same a i x j e = at_placed a.default a.entries (i, x) j ∙ ap (λ b. if b then x else held_at a j) (eq-eqb i j (sym e))

pub stored_other : (a : Elements) (i x j : ℕ) → (j ≡ i → ⊥) → held_at (with_entry a i x) j ≡ held_at a j
stored_other a i x j ne = at_placed a.default a.entries (i, x) j ∙ ap (λ b. if b then x else held_at a j) (ne_eqb i j (λ e. ne (sym e)))

pub stored_lt : (m : ℕ) (a : Elements) (i x : ℕ) → ((j : ℕ) → held_at a j < m) → x < m → (j : ℕ) → held_at (with_entry a i x) j < m
stored_lt m a i x h lt j = subst (λ k. k < m) (sym (at_placed a.default a.entries (i, x) j)) (go (i == j)) where
  go : (b : Bool) → (if b then x else held_at a j) < m
  go true = lt
  go false = h j

-- ---- elements that are read at a width

entries_lt : (m : ℕ) → 0 < m → (d : ℕ) → d < m → (es : List (ℕ × ℕ)) (i : ℕ) → element_in d (map (reduced m) es) i < m
entries_lt m pos d lt [] i = lt
entries_lt m pos d lt (e ∷ es) i = go (e.0 == i) (entries_lt m pos d lt es i) where
  go : (b : Bool) → element_in d (map (reduced m) es) i < m → (if b then e.1 % m else element_in d (map (reduced m) es) i) < m
  go true ih = mod-lt e.1 pos
  go false ih = ih

pub below_lt : (m : ℕ) → 0 < m → (a : Elements) (i : ℕ) → held_at (elements_below m a) i < m
below_lt m pos a i = entries_lt m pos (a.default % m) (mod-lt a.default pos) a.entries i

-- arrays that are not the same differ at the least such index
pub first_differs : (n : ℕ) (f g : ℕ → ℕ) → all_below (λ i. f i == g i) n ≡ false → (let w = first_below (λ i. not (f i == g i)) n in (w < n) × (f w ≡ g w → ⊥))
first_differs n f g h =
    let differ : ℕ → Bool = λ i. not (f i == g i) in
    let all = all_below_same (λ i. not (differ i)) (λ i. f i == g i) n (λ i. not-not (f i == g i)) in
    let w = first_below_is differ n (all ∙ h) in
    let k = first_below differ n in
    let e = not-true (f k == g k) w.1 in
    (w.0, λ same. let t = eq-eqb (f k) (g k) same in let q : true ≡ false = sym t ∙ e in let z : ⊥ = cc in z)

-- arrays that differ somewhere are not the same
pub differ_not_all : (n : ℕ) (f g : ℕ → ℕ) (i : ℕ) → i < n → (f i ≡ g i → ⊥) → all_below (λ k. f k == g k) n ≡ false
differ_not_all n f g i lt ne = go (all_below (λ k. f k == g k) n) refl where
  go : (b : Bool) → all_below (λ k. f k == g k) n ≡ b → all_below (λ k. f k == g k) n ≡ false
  go false e = e
  go true e = let q = eqb-true (f i) (g i) (all_below_each (λ k. f k == g k) n e i lt) in absurd (ne q)
