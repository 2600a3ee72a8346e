-- Places and members of lists, whatever their elements are.
use Rattle.std.proofs.Common.{◌≡◌, ℕ, zero, suc, ◌<◌, List, [], ◌∷◌, ◌++◌, length, take, get_or, Some, refl, ap, ◌∙◌, subst, inl, inr, ⊎_elim, arith}
use Rattle.std.specs.Prelude.{◌⊎◌, Contains, map, slice_get, slice_set}
use Rattle.std.specs.List.{AllByRecursion}
use Rattle.std.proofs.lemmas.List.{length-map}
use Rattle.std.proofs.lemmas.List.Elements.{All-from_recursion, All-get_or, All-contains, Contains-push_cases}
use Rattle.std.proofs.lemmas.Option.{slice_get_within, get_or_from_slice_get}
use Rattle.std.proofs.Math.ListN.{get_or-map}

-- ---- the element at a place

module _ {A : Type 0} where
  pub slice_get-there : (xs : List A) (i : ℕ) → i < length xs → (x : A) × (slice_get xs i ≡ Some x)
  slice_get-there [] i lt = absurd (omega arith)
  slice_get-there (x ∷ xs) zero lt = (x, refl)
  slice_get-there (x ∷ xs) (suc i) lt = slice_get-there xs i (omega arith)

  pub slice_get-at : (xs : List A) (x : A) (ys : List A) → slice_get (xs ++ x ∷ ys) (length xs) ≡ Some x
  slice_get-at [] x ys = refl
  slice_get-at (y ∷ xs) x ys = slice_get-at xs x ys

  pub slice_get-push : (xs : List A) (x : A) → slice_get (xs ++ x ∷ []) (length xs) ≡ Some x
  slice_get-push xs x = slice_get-at xs x []

  pub slice_get-push_cases : (xs : List A) (x y : A) (i : ℕ) → slice_get (xs ++ x ∷ []) i ≡ Some y → (slice_get xs i ≡ Some y) ⊎ ((i ≡ length xs) × (x ≡ y))
  slice_get-push_cases [] x y zero e = inr (refl, (let q : x ≡ y = cc in q))
  slice_get-push_cases [] x y (suc i) e = let q : ⊥ = cc in absurd q
  slice_get-push_cases (z ∷ zs) x y zero e = inl e
  slice_get-push_cases (z ∷ zs) x y (suc i) e = ⊎_elim (λ p. inl p) (λ p. inr (ap suc p.0, p.1)) (slice_get-push_cases zs x y i e)

  pub slice_get-append_left : (xs ys : List A) (i : ℕ) → i < length xs → slice_get (xs ++ ys) i ≡ slice_get xs i
  slice_get-append_left [] ys i lt = absurd (omega arith)
  slice_get-append_left (x ∷ xs) ys zero lt = refl
  slice_get-append_left (x ∷ xs) ys (suc i) lt = slice_get-append_left xs ys i (omega arith)

  -- what stands in a list stands there in a longer one
  pub slice_get-longer : (xs ys : List A) (i : ℕ) (x : A) → slice_get xs i ≡ Some x → slice_get (xs ++ ys) i ≡ Some x
  slice_get-longer xs ys i x e = slice_get-append_left xs ys i (slice_get_within xs i x e) ∙ e

  -- what stands in a front of a list
  pub slice_get-take : (n : ℕ) (xs : List A) (i : ℕ) (x : A) → slice_get (take n xs) i ≡ Some x → (i < n) × (slice_get xs i ≡ Some x)
  slice_get-take zero xs i x e = let q : ⊥ = cc in absurd q
  slice_get-take (suc n) [] i x e = let q : ⊥ = cc in absurd q
  slice_get-take (suc n) (y ∷ xs) zero x e = (omega arith, e)
  slice_get-take (suc n) (y ∷ xs) (suc i) x e = let h = slice_get-take n xs i x e in (omega (arith, h.0), h.1)

  pub slice_get-set_same : (xs : List A) (i : ℕ) (x : A) → i < length xs → slice_get (slice_set xs i x) i ≡ Some x
  slice_get-set_same [] i x lt = absurd (omega arith)
  slice_get-set_same (y ∷ xs) zero x lt = refl
  slice_get-set_same (y ∷ xs) (suc i) x lt = slice_get-set_same xs i x (omega arith)

  pub slice_get-set_other : (xs : List A) (i j : ℕ) (x : A) → (j ≡ i → ⊥) → slice_get (slice_set xs i x) j ≡ slice_get xs j
  slice_get-set_other [] i j x ne = refl
  slice_get-set_other (y ∷ xs) zero zero x ne = absurd (ne refl)
  slice_get-set_other (y ∷ xs) zero (suc j) x ne = refl
  slice_get-set_other (y ∷ xs) (suc i) zero x ne = refl
  slice_get-set_other (y ∷ xs) (suc i) (suc j) x ne = slice_get-set_other xs i j x (λ e. ne (ap suc e))

  -- ---- members

  pub Contains-nil : (x : A) → Contains [] x → ⊥
  Contains-nil x h = omega (arith, h.1)

  pub Contains-first : (x : A) (xs : List A) → Contains (x ∷ xs) x
  Contains-first x xs = (0, omega arith, refl)

  pub Contains-later : (x y : A) (xs : List A) → Contains xs y → Contains (x ∷ xs) y
  Contains-later x y xs h = (suc h.0, omega (arith, h.1), h.2)

  pub Contains-one : (x y : A) → Contains (x ∷ []) y → x ≡ y
  Contains-one x y h = ⊎_elim (λ c. absurd (Contains-nil y c)) (λ e. e) (Contains-push_cases [] x y h)

  pub Contains-slice_get : (xs : List A) (i : ℕ) (x : A) → slice_get xs i ≡ Some x → Contains xs x
  Contains-slice_get xs i x e = (i, slice_get_within xs i x e, get_or_from_slice_get xs i x x e)

pub Contains-map : {A B : Type 0} (f : A → B) (xs : List A) (x : A) → Contains xs x → Contains (map f xs) (f x)
Contains-map f xs x c = (c.0, rw length-map c.1, get_or-map f xs c.0 x ∙ ap f c.2)

-- ---- what holds of each element

module _ {A : Type 0} (P : A → Type 0) where
  pub each_append : (xs ys : List A) → AllByRecursion P xs → AllByRecursion P ys → AllByRecursion P (xs ++ ys)
  each_append [] ys h k = k
  each_append (x ∷ xs) ys h k = (h.0, each_append xs ys h.1 k)

  pub each_front : (xs ys : List A) → AllByRecursion P (xs ++ ys) → AllByRecursion P xs
  each_front [] ys h = tt
  each_front (x ∷ xs) ys h = (h.0, each_front xs ys h.1)

  pub each_behind : (xs ys : List A) → AllByRecursion P (xs ++ ys) → AllByRecursion P ys
  each_behind [] ys h = h
  each_behind (x ∷ xs) ys h = each_behind xs ys h.1

  pub each_get_or : (xs : List A) → AllByRecursion P xs → (i : ℕ) (d : A) → i < length xs → P (get_or xs i d)
  each_get_or xs h i d lt = All-get_or P xs i d lt (All-from_recursion P xs h)

  pub each_slice_get : (xs : List A) (i : ℕ) (x : A) → AllByRecursion P xs → slice_get xs i ≡ Some x → P x
  each_slice_get xs i x h e = subst P (get_or_from_slice_get xs i x x e) (each_get_or xs h i x (slice_get_within xs i x e))

  pub each_member : (xs : List A) (x : A) → AllByRecursion P xs → Contains xs x → P x
  each_member xs x h c = All-contains P xs x (All-from_recursion P xs h) c

pub each_map : {A B : Type 0} (f : A → B) (P : B → Type 0) (xs : List A) → AllByRecursion (λ x. P (f x)) xs → AllByRecursion P (map f xs)
each_map f P [] h = tt
each_map f P (x ∷ xs) h = (h.0, each_map f P xs h.1)

pub each_mapped : {A B : Type 0} (f : A → B) (P : B → Type 0) (xs : List A) → AllByRecursion P (map f xs) → AllByRecursion (λ x. P (f x)) xs
each_mapped f P [] h = tt
each_mapped f P (x ∷ xs) h = (h.0, each_mapped f P xs h.1)
