-- What a table by variable tells, and one variable more.
use Rattle.std.proofs.Common.{◌≡◌, ℕ, zero, suc, ◌<◌, ◌≤◌, List, [], ◌∷◌, ◌++◌, length, take, get_or, Some, refl, sym, ap, ◌∙◌, subst, arith, inl, inr, ⊎_elim}
use Rattle.std.specs.Prelude.{◌⊎◌, All, Contains, slice_get, slice_set}
use Rattle.std.proofs.lemmas.Option.{slice_get-get_or, slice_get_within, slice_get_read, get_or_from_slice_get}
use Rattle.variable_list.specs.Variables.{IsVariable, IsOnce, IsTable, Keeps}

-- ---- what a list contains, by places

contains_at : (xs : List ℕ) (k x : ℕ) → slice_get xs k ≡ Some x → Contains xs x
contains_at xs k x e = (k, slice_get_within xs k x e, get_or_from_slice_get xs k x x e)

at_contained : (xs : List ℕ) (x : ℕ) → Contains xs x → (k : ℕ) × (slice_get xs k ≡ Some x)
at_contained xs x c = (c.0, slice_get-get_or xs c.0 x c.1 ∙ ap Some c.2)

-- ---- the table

pub table_once : (places xs : List ℕ) → IsTable places xs → IsOnce xs
table_once places xs t j k x p q = let e : Some j ≡ Some k = sym (t.each j x p) ∙ t.each k x q in cc

pub table_variables : (places xs : List ℕ) → IsTable places xs → All IsVariable xs
table_variables places xs t k d lt = t.variables k (get_or xs k d) (slice_get-get_or xs k d lt)

pub table_kept : (old new xs : List ℕ) → Keeps old new → IsTable old xs → IsTable new xs
table_kept old new xs keeps t = record { each = λ k x e. keeps x k (t.each k x e); variables = t.variables }

push_cases : (xs : List ℕ) (y k x : ℕ) → slice_get (xs ++ y ∷ []) k ≡ Some x → (slice_get xs k ≡ Some x) ⊎ ((k ≡ length xs) × (x ≡ y))
push_cases [] y zero x e = inr (refl, (let q : x ≡ y = cc in q))
push_cases [] y (suc k) x e = let q : ⊥ = cc in absurd q
push_cases (z ∷ zs) y zero x e = inl e
push_cases (z ∷ zs) y (suc k) x e = ⊎_elim (λ p. inl p) (λ p. inr (ap suc p.0, p.1)) (push_cases zs y k x e)

set_same : (xs : List ℕ) (i v : ℕ) → i < length xs → slice_get (slice_set xs i v) i ≡ Some v
set_same [] i v lt = absurd (omega arith)
set_same (x ∷ xs) zero v lt = refl
set_same (x ∷ xs) (suc i) v lt = set_same xs i v (omega arith)

set_other : (xs : List ℕ) (i k v : ℕ) → (i ≡ k → ⊥) → slice_get (slice_set xs i v) k ≡ slice_get xs k
set_other [] i k v ne = refl
set_other (x ∷ xs) zero zero v ne = absurd (ne refl)
set_other (x ∷ xs) zero (suc k) v ne = refl
set_other (x ∷ xs) (suc i) zero v ne = refl
set_other (x ∷ xs) (suc i) (suc k) v ne = set_other xs i k v (λ e. ne (ap suc e))

pub table_push : (places xs : List ℕ) (y : ℕ) → IsTable places xs → y < length places → IsVariable y → (Contains xs y → ⊥) → IsTable (slice_set places y (length xs)) (xs ++ y ∷ [])
table_push places xs y t lt is new = record {
  each = λ k x e.
      ⊎_elim
      (λ p. set_other places y x (length xs) (λ q. new (contains_at xs k y (subst (λ z. slice_get xs k ≡ Some z) (sym q) p))) ∙ t.each k x p)
      (λ p. subst (λ z. slice_get (slice_set places y (length xs)) z ≡ Some k) (sym p.1) (set_same places y (length xs) lt ∙ ap Some (sym p.0)))
      (push_cases xs y k x e);
  variables = λ k x e. ⊎_elim (λ p. t.variables k x p) (λ p. subst IsVariable (sym p.1) is) (push_cases xs y k x e);
}

-- ---- the first variables alone

from_take : (n : ℕ) (xs : List ℕ) (k x : ℕ) → slice_get (take n xs) k ≡ Some x → slice_get xs k ≡ Some x
from_take zero xs k x e = let q : ⊥ = cc in absurd q
from_take (suc n) [] k x e = e
from_take (suc n) (y ∷ ys) zero x e = e
from_take (suc n) (y ∷ ys) (suc k) x e = from_take n ys k x e

pub table_cut : (places xs : List ℕ) (n : ℕ) → IsTable places xs → IsTable places (take n xs)
table_cut places xs n t = record {
  each = λ k x e. t.each k x (from_take n xs k x e);
  variables = λ k x e. t.variables k x (from_take n xs k x e);
}

-- ---- what a look into the table shows

-- an element that was read from a list with these items
pub read_at : (xs ys : List ℕ) (k x : ℕ) → ys ≡ xs → k < length ys → x ≡ get_or ys k x → slice_get xs k ≡ Some x
read_at xs ys k x e lt r = ap (λ l. slice_get l k) (sym e) ∙ slice_get_read ys (length ys) k x refl lt r

pub absent_past : (places xs ys : List ℕ) (x : ℕ) → IsTable places xs → ys ≡ places → length ys ≤ x → Contains xs x → ⊥
absent_past places xs ys x t e le c =
    let at = at_contained xs x c in
    let lt = slice_get_within places x at.0 (t.each at.0 x at.1) in
    let same : length ys ≡ length places = ap length e in
    omega (arith, lt, same, le)

pub absent_wide : (places xs ys : List ℕ) (x k : ℕ) → IsTable places xs → slice_get places x ≡ Some k → ys ≡ xs → length ys ≤ k → Contains xs x → ⊥
absent_wide places xs ys x k t found e le c =
    let at = at_contained xs x c in
    let same : Some k ≡ Some at.0 = sym found ∙ t.each at.0 x at.1 in
    let own : k ≡ at.0 = cc in
    let lt = slice_get_within xs at.0 x at.1 in
    let count : length ys ≡ length xs = ap length e in
    omega (arith, own, lt, count, le)

pub absent_other : (places xs : List ℕ) (x k y : ℕ) → IsTable places xs → slice_get places x ≡ Some k → slice_get xs k ≡ Some y → (y ≡ x → ⊥) → Contains xs x → ⊥
absent_other places xs x k y t found name other c =
    let at = at_contained xs x c in
    let same : Some k ≡ Some at.0 = sym found ∙ t.each at.0 x at.1 in
    let own : k ≡ at.0 = cc in
    let both : Some y ≡ Some x = sym name ∙ ap (slice_get xs) own ∙ at.1 in
    let f : y ≡ x = cc in
    other f
