-- Members of lists, literals and marks.
use Rattle.std.proofs.Common.{ℕ, ◌≡◌, ◌≢◌, ◌+◌, ◌<◌, ◌≤◌, ◌⊎◌, zero, suc, Bool, true, false, List, [], ◌∷◌, length, take, replicate, refl, ap, inl, inr, arith}
use Rattle.std.specs.Prelude.{Contains}
use Rattle.std.proofs.Math.ListN.{get_or, set}
use Rattle.std.proofs.lemmas.Bool.{cases_lt, both_ways}
use Rattle.std.proofs.lemmas.Bool.Decides.{eqb_tells}
use Rattle.std.proofs.lemmas.List.{length-replicate, get_or-replicate, get_or-set_other, get_or-set_same, get_or_past, take_more}
use Rattle.std.proofs.lemmas.List.Elements.{Contains-push_cases, Contains-append_cases}
use Rattle.cdcl_core.specs.Chains.{times}
use Rattle.cdcl_core.proofs.Counting.{same_or_not, times_cons, item_in}
use Rattle.cdcl_learn.specs.Walks.{IsSet}
use Rattle.cnf_base.proofs.Lists.{Contains-nil}

pub member_cases : {X : Type 0} (x y : X) (xs : List X) → Contains (x ∷ xs) y → (x ≡ y) ⊎ Contains xs y
member_cases x y xs h = elim (Contains-append_cases (x ∷ []) xs y h) [
  | inl a ↦ elim (Contains-push_cases [] x y a) [ inl b ↦ absurd (Contains-nil y b) | inr e ↦ inl e ]
  | inr a ↦ inr a
]

-- a member of a longer front
pub front_cases : {X : Type 0} (xs : List X) (i : ℕ) (d y : X) → i < length xs → Contains (take (i + 1) xs) y → (Contains (take i xs) y) ⊎ (get_or xs i d ≡ y)
front_cases xs i d y h m = Contains-push_cases (take i xs) (get_or xs i d) y (rw (take_more xs i d h) at m)

-- a read of marks after a write
pub put_cases : (xs : List Bool) (i : ℕ) (v : Bool) (j : ℕ) → i < length xs → ((j ≡ i) × (get_or (set xs i v) j false ≡ v)) ⊎ ((j ≢ i) × (get_or (set xs i v) j false ≡ get_or xs j false))
put_cases xs i v j h = elim (eqb_tells j i) [
  | inl p ↦ inl (p.1, rw p.1 (get_or-set_same xs i v false h))
  | inr p ↦ inr (p.1, get_or-set_other xs i j v false p.1)
]

pub unset : {A : Type 0} (b : Bool) → b ≡ false → b ≡ true → A
unset b e f = absurd (both_ways b e f)

-- a mark is within the table
pub set_inside : (marks : List Bool) (p : ℕ) → IsSet marks p → p < length marks
set_inside marks p s = elim (cases_lt p (length marks)) [ inl a ↦ a | inr a ↦ unset (get_or marks p false) (get_or_past marks p false a) s ]

twice : (q x : ℕ) (xs : List ℕ) (k : ℕ) → times q (x ∷ xs) ≤ 1 → x ≡ q → k < length xs → get_or xs k 0 ≡ q → ⊥
twice q x xs k t e h at =
    let there : 0 < times q xs = (let a : 0 < times (get_or xs k 0) xs = item_in xs k 0 h in rw at at a) in
    elim (same_or_not x q) [ inl p ↦ omega (arith, t, times_cons q x xs, p.1, there) | inr p ↦ p.0 e ]

-- a number that stands at most once stands at one place
pub one_place : (q : ℕ) (xs : List ℕ) (i k : ℕ) → times q xs ≤ 1 → i < length xs → k < length xs → get_or xs i 0 ≡ q → get_or xs k 0 ≡ q → i ≡ k
one_place q [] i k t hi hk ei ek = absurd (omega arith)
one_place q (x ∷ xs) zero zero t hi hk ei ek = refl
one_place q (x ∷ xs) zero (suc k) t hi hk ei ek = absurd (twice q x xs k t ei (omega arith) ek)
one_place q (x ∷ xs) (suc i) zero t hi hk ei ek = absurd (twice q x xs i t ek (omega arith) ei)
one_place q (x ∷ xs) (suc i) (suc k) t hi hk ei ek = ap suc (one_place q xs i k (omega (arith, t, times_cons q x xs)) (omega arith) (omega arith) ei ek)

pub unset_all : {A : Type 0} (n p : ℕ) → IsSet (replicate n false) p → A
unset_all n p s = elim (cases_lt p n) [
  | inl h ↦ unset (get_or (replicate n false) p false) (get_or-replicate n p false false h) s
  | inr h ↦ unset (get_or (replicate n false) p false) (get_or_past (replicate n false) p false (rw length-replicate h)) s
]
