-- Counts, signs and writes.
use Rattle.std.proofs.Common.{ℕ, ◌≡◌, ◌≢◌, ◌+◌, ◌-◌, ◌/◌, ◌%◌, ◌<◌, ◌≤◌, ◌⊎◌, ◌++◌, zero, suc, List, [], ◌∷◌, length, take, cond, Bool, true, false, eqb, refl, subst, inl, inr, arith}
use Rattle.std.proofs.Math.ListN.{get_or, set}
use Rattle.std.proofs.lemmas.List.{get_or-set_other, get_or-set_same, take_more, get_or_past}
use Rattle.std.proofs.lemmas.Bool.{cases_lt, cond-true, cond-false}
use Rattle.std.proofs.lemmas.Bool.Decides.{eqb_tells}
use Rattle.cdcl_core.specs.Chains.{times, first_of, rest_of}
use Rattle.cdcl_core.specs.Stamps.{neg, is_set, IsFalseBut}

abbrev pub bit : Bool → ℕ
bit b = cond b 1 0

pub bit_le : (b : Bool) → bit b ≤ 1
bit_le true = omega arith
bit_le false = omega arith

pub set_one : (n : ℕ) → 0 < n → bit (is_set n) ≡ 1
set_one zero h = absurd (omega arith)
set_one (suc n) h = refl

pub set_none : (n : ℕ) → n ≡ 0 → bit (is_set n) ≡ 0
set_none zero h = refl
set_none (suc n) h = absurd (omega arith)

pub one_set : (n : ℕ) → 0 < bit (is_set n) → 0 < n
one_set zero h = absurd (omega arith)
one_set (suc n) h = omega arith

pub same_or_not : (a b : ℕ) → ((a ≡ b) × (bit (eqb a b) ≡ 1)) ⊎ ((a ≢ b) × (bit (eqb a b) ≡ 0))
same_or_not a b = elim (eqb_tells a b) [ inl p ↦ inl (p.1, cond-true (eqb a b) 1 0 p.0) | inr p ↦ inr (p.1, cond-false (eqb a b) 1 0 p.0) ]

pub times_cons : (q k : ℕ) (xs : List ℕ) → times q (k ∷ xs) ≡ cond (eqb k q) 1 0 + times q xs
unfolding times
times_cons q k xs = refl

pub times_nil : (q : ℕ) → times q [] ≡ 0
unfolding times
times_nil q = refl

pub times-append : (q : ℕ) (xs ys : List ℕ) → times q (xs ++ ys) ≡ times q xs + times q ys
unfolding times
times-append q [] ys = omega arith
times-append q (x ∷ xs) ys = omega (arith, times-append q xs ys)

pub times_push : (q x : ℕ) (xs : List ℕ) → times q (xs ++ x ∷ []) ≡ times q xs + cond (eqb x q) 1 0
times_push q x xs = omega (arith, times-append q xs (x ∷ []), times_cons q x [], times_nil q)

pub times_take : (q i j : ℕ) (xs : List ℕ) → i ≤ j → times q (take i xs) ≤ times q (take j xs)
unfolding times
times_take q zero j xs h = omega arith
times_take q (suc i) zero xs h = absurd (omega arith)
times_take q (suc i) (suc j) [] h = omega arith
times_take q (suc i) (suc j) (x ∷ xs) h = omega (arith, times_take q i j xs (omega arith))

-- the first place of a list, and the rest
pub taken_apart : (xs : List ℕ) (q : ℕ) → 0 < first_of xs → times q xs ≡ cond (eqb (first_of xs) q) 1 0 + times q (rest_of xs)
taken_apart [] q h = absurd (omega arith)
taken_apart (x ∷ xs) q h = times_cons q x xs

pub neg_cases : (l : ℕ) → ((l % 2 ≡ 0) × (neg l ≡ l + 1)) ⊎ ((l % 2 ≡ 1) × (neg l ≡ l - 1))
unfolding neg
neg_cases l = elim (eqb_tells (l % 2) 0) [ inl p ↦ inl (p.1, cond-true (eqb (l % 2) 0) (l + 1) (l - 1) p.0) | inr p ↦ inr (omega (arith, p.1), cond-false (eqb (l % 2) 0) (l + 1) (l - 1) p.0) ]

pub neg_neg : (l : ℕ) → neg (neg l) ≡ l
neg_neg l = elim (neg_cases l) [
  | inl p ↦ elim (neg_cases (neg l)) [ inl w ↦ absurd (omega (arith, p.0, p.1, w.0)) | inr w ↦ omega (arith, p.1, w.1) ]
  | inr p ↦ elim (neg_cases (neg l)) [ inl w ↦ omega (arith, p.0, p.1, w.1) | inr w ↦ absurd (omega (arith, p.0, p.1, w.0)) ]
]

pub neg_differs : (l : ℕ) → neg l ≢ l
neg_differs l e = elim (neg_cases l) [ inl p ↦ omega (arith, p.1, e) | inr p ↦ omega (arith, p.0, p.1, e) ]

pub neg_below : (l n : ℕ) → l < n → n % 2 ≡ 0 → neg l < n
neg_below l n h e = elim (neg_cases l) [ inl p ↦ omega (arith, p.0, p.1) | inr p ↦ omega (arith, p.1) ]

pub neg_past : (l n : ℕ) → n ≤ l → n % 2 ≡ 0 → n ≤ neg l
neg_past l n h e = elim (neg_cases l) [ inl p ↦ omega (arith, p.1) | inr p ↦ omega (arith, p.0, p.1) ]

pub neg_low : (k : ℕ) → 2 ≤ k → 2 ≤ neg k
neg_low k h = elim (neg_cases k) [ inl p ↦ omega (arith, p.1) | inr p ↦ omega (arith, p.0, p.1) ]

pub neg_slot : (k : ℕ) → neg k / 2 ≡ k / 2
neg_slot k = elim (neg_cases k) [ inl p ↦ rw p.1 (omega (arith, p.0)) | inr p ↦ rw p.1 (omega (arith, p.0)) ]

-- a read after a write
pub set_cases : (xs : List ℕ) (i v j : ℕ) → i < length xs → ((j ≡ i) × (get_or (set xs i v) j 0 ≡ v)) ⊎ ((j ≢ i) × (get_or (set xs i v) j 0 ≡ get_or xs j 0))
set_cases xs i v j h = elim (eqb_tells j i) [
  | inl p ↦ inl (p.1, rw p.1 (get_or-set_same xs i v 0 h))
  | inr p ↦ inr (p.1, get_or-set_other xs i j v 0 p.1)
]

-- what holds of each literal of a part of a clause
pub read_more : (xs ss : List ℕ) (o start i x : ℕ) → get_or xs i 0 ≡ x → ((m : ℕ) → start ≤ m → m < i → IsFalseBut ss o (get_or xs m 0)) → IsFalseBut ss o x → (m : ℕ) → start ≤ m → m < i + 1 → IsFalseBut ss o (get_or xs m 0)
read_more xs ss o start i x e below here m lo hi = elim (eqb_tells m i) [
  | inl p ↦ rw (p.1, e) here
  | inr p ↦ below m lo (omega (arith, hi, p.1))
]

pub item_in : (xs : List ℕ) (i d : ℕ) → i < length xs → 0 < times (get_or xs i d) xs
unfolding times
item_in [] i d h = absurd (omega arith)
item_in (x ∷ xs) zero d h = elim (same_or_not x x) [ inl p ↦ omega (arith, p.1) | inr p ↦ absurd (p.0 refl) ]
item_in (x ∷ xs) (suc i) d h = omega (arith, item_in xs i d (omega arith))

-- what holds of each element of a front, and of the next element
pub each_more : (P : ℕ → Type 0) (xs : List ℕ) (i x : ℕ) → i < length xs → get_or xs i 0 ≡ x → ((m : ℕ) → 0 < times m (take i xs) → P m) → P x → (m : ℕ) → 0 < times m (take (i + 1) xs) → P m
each_more P xs i x hi e below here m h =
    let e2 : times m (take (i + 1) xs) ≡ times m (take i xs) + bit (eqb x m) = rw (take_more xs i 0 hi, e) (times_push m x (take i xs)) in
    elim (same_or_not x m) [
      | inl p ↦ subst P p.0 here
      | inr p ↦ below m (omega (arith, e2, h, p.1))
    ]

-- what is not 0 is read within the list
pub set_within : (xs : List ℕ) (i : ℕ) → 0 < get_or xs i 0 → i < length xs
set_within xs i h = elim (cases_lt i (length xs)) [ inl a ↦ a | inr a ↦ absurd (omega (arith, h, get_or_past xs i 0 a)) ]
