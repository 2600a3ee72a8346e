-- Lists, one element more.
use Rattle.std.proofs.Common.{◌≡◌, ℕ, zero, suc, ◌<◌, ◌≤◌, List, [], ◌∷◌, ◌++◌, length, Some, refl, ap, inl, inr, ⊎_elim, arith}
use Rattle.std.specs.Prelude.{◌⊎◌, slice_get, slice_set}
use Rattle.std.proofs.lemmas.Bool.{cases_lt}

pub set_same : {A : Type 0} (xs : List A) (i : ℕ) (x : A) → i < length xs → slice_get (slice_set xs i x) i ≡ Some x
set_same [] i x h = absurd (omega arith)
set_same (y ∷ xs) zero x h = refl
set_same (y ∷ xs) (suc i) x h = set_same xs i x (omega arith)

pub set_other : {A : Type 0} (xs : List A) (i j : ℕ) (x : A) → (j ≡ i → ⊥) → slice_get (slice_set xs i x) j ≡ slice_get xs j
set_other [] i j x ne = refl
set_other (y ∷ xs) zero zero x ne = absurd (ne refl)
set_other (y ∷ xs) zero (suc j) x ne = refl
set_other (y ∷ xs) (suc i) zero x ne = refl
set_other (y ∷ xs) (suc i) (suc j) x ne = set_other xs i j x (λ e. ne (ap suc e))

pub eq_or_not : (a b : ℕ) → (a ≡ b) ⊎ (a ≡ b → ⊥)
eq_or_not a b = ⊎_elim (λ lt. inr (λ e. let f : ⊥ = omega arith in f)) (λ le. ⊎_elim (λ lt. inr (λ e. let f : ⊥ = omega arith in f)) (λ le'. inl (omega arith)) (cases_lt b a)) (cases_lt a b)

pub get_front : {A : Type 0} (xs ys : List A) (i : ℕ) (x : A) → slice_get xs i ≡ Some x → slice_get (xs ++ ys) i ≡ Some x
get_front [] ys i x e = let f : ⊥ = cc in absurd f
get_front (y ∷ xs) ys zero x e = e
get_front (y ∷ xs) ys (suc i) x e = get_front xs ys i x e

pub get_last : {A : Type 0} (xs : List A) (x : A) → slice_get (xs ++ x ∷ []) (length xs) ≡ Some x
get_last [] x = refl
get_last (y ∷ xs) x = get_last xs x

pub get_push : {A : Type 0} (xs : List A) (x y : A) (i : ℕ) → slice_get (xs ++ x ∷ []) i ≡ Some y → ((i ≡ length xs) × (x ≡ y)) ⊎ (slice_get xs i ≡ Some y)
get_push [] x y zero e = inl (refl, cc)
get_push [] x y (suc i) e = let f : ⊥ = cc in absurd f
get_push (z ∷ xs) x y zero e = inr e
get_push (z ∷ xs) x y (suc i) e = ⊎_elim (λ h. inl (ap suc h.0, h.1)) (λ h. inr h) (get_push xs x y i e)

pub longer : {A : Type 0} (xs ys : List A) → ((i : ℕ) (x : A) → slice_get xs i ≡ Some x → slice_get ys i ≡ Some x) → length xs ≤ length ys
longer [] ys h = omega arith
longer (x ∷ xs) [] h = let e : slice_get [] zero ≡ Some x = h zero x refl in let f : ⊥ = cc in absurd f
longer (x ∷ xs) (y ∷ ys) h = let k = longer xs ys (λ i z e. h (suc i) z e) in omega (arith, k)
