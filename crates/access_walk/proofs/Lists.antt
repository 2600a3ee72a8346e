-- Lists by places, and lists that grow at their end.
use Rattle.std.proofs.Common.{◌≡◌, ℕ, zero, suc, ◌<◌, List, [], ◌∷◌, ◌++◌, length, map, Some, refl, sym, ap, ◌∙◌, subst, inl, inr, ⊎_elim, arith}
use Rattle.std.specs.Prelude.{◌⊎◌, slice_get, slice_index_or, All, Contains}
use Rattle.std.proofs.lemmas.Option.{slice_get_within, slice_get-get_or, get_or_from_slice_get}
use Rattle.std.proofs.lemmas.List.Elements.{Contains-append_left, Contains-append_right, Contains-append_cases}

module _ {A : Type 0} where
  pub place_of : (xs : List A) (k : ℕ) (x : A) → slice_get xs k ≡ Some x → Contains xs x
  place_of xs k x e = (k, slice_get_within xs k x e, get_or_from_slice_get xs k x x e)

  pub at_place : (xs : List A) (x : A) → Contains xs x → (k : ℕ) × (slice_get xs k ≡ Some x)
  at_place xs x c = (c.0, slice_get-get_or xs c.0 x c.1 ∙ ap Some c.2)

  pub read : (xs : List A) (k : ℕ) (x d : A) → slice_get xs k ≡ Some x → slice_index_or xs k d ≡ x
  read xs k x d e = get_or_from_slice_get xs k x d e

  -- what stands at a place below the length
  pub some_at : (xs : List A) (k : ℕ) (d : A) → k < length xs → slice_get xs k ≡ Some (slice_index_or xs k d)
  some_at xs k d lt = slice_get-get_or xs k d lt

  pub within : (xs : List A) (k : ℕ) (x : A) → slice_get xs k ≡ Some x → k < length xs
  within xs k x e = slice_get_within xs k x e

  -- of all, one
  pub one_of : (P : A → Type 0) (xs : List A) → All P xs → (k : ℕ) (x : A) → slice_get xs k ≡ Some x → P x
  one_of P xs all k x e = subst P (read xs k x x e) (all k x (within xs k x e))

  pub member_of : (P : A → Type 0) (xs : List A) → All P xs → (x : A) → Contains xs x → P x
  member_of P xs all x c = let h = at_place xs x c in one_of P xs all h.0 x h.1

  -- all, where each at its place is
  pub all_of : (P : A → Type 0) (xs : List A) → ((k : ℕ) (x : A) → slice_get xs k ≡ Some x → P x) → All P xs
  all_of P xs each k d lt = each k (slice_index_or xs k d) (some_at xs k d lt)

  pub same_at : (xs : List A) (k : ℕ) (x y : A) → slice_get xs k ≡ Some x → slice_get xs k ≡ Some y → x ≡ y
  same_at xs k x y p q = let z : Some x ≡ Some y = sym p ∙ q in cc

  pub append_nil : (xs : List A) → xs ++ [] ≡ xs
  append_nil [] = refl
  append_nil (x ∷ xs) = ap (λ ys. x ∷ ys) (append_nil xs)

  pub later_member : (x : A) (xs : List A) (y : A) → Contains xs y → Contains (x ∷ xs) y
  later_member x xs y c = let lt = c.1 in (suc c.0, omega (arith, lt), c.2)

  pub not_nil : (x : A) → Contains {X = A} [] x → ⊥
  not_nil x c = let lt = c.1 in omega (arith, lt)

  -- a list and one more
  pub old_member : (old new : List A) (y x : A) → new ≡ old ++ y ∷ [] → Contains old x → Contains new x
  old_member old new y x e c = subst (λ xs. Contains xs x) (sym e) (Contains-append_left old (y ∷ []) x c)

  pub new_member : (old new : List A) (y : A) → new ≡ old ++ y ∷ [] → Contains new y
  new_member old new y e = subst (λ xs. Contains xs y) (sym e) (Contains-append_right old (y ∷ []) y (0, omega arith, refl))

  pub member_cases : (old new : List A) (y x : A) → new ≡ old ++ y ∷ [] → Contains new x → Contains old x ⊎ (y ≡ x)
  member_cases old new y x e c = ⊎_elim (λ h. inl h) (λ h. inr (only h)) (Contains-append_cases old (y ∷ []) x (subst (λ xs. Contains xs x) e c)) where
    only : Contains (y ∷ []) x → y ≡ x
    only (zero, lt, p) = p
    only (suc n, lt, p) = absurd (omega (arith, lt))

module _ {A B : Type 0} (f : A → B) where
  pub mapped : (xs : List A) (k : ℕ) (x : A) → slice_get xs k ≡ Some x → slice_get (map f xs) k ≡ Some (f x)
  mapped [] k x e = let z : ⊥ = cc in absurd z
  mapped (y ∷ xs) zero x e = let same : y ≡ x = cc in ap (λ z. Some (f z)) same
  mapped (y ∷ xs) (suc k) x e = mapped xs k x e

  pub unmapped : (xs : List A) (k : ℕ) (y : B) → slice_get (map f xs) k ≡ Some y → (x : A) × (slice_get xs k ≡ Some x) × (y ≡ f x)
  unmapped [] k y e = let z : ⊥ = cc in absurd z
  unmapped (x ∷ xs) zero y e = (x, refl, (let same : y ≡ f x = cc in same))
  unmapped (x ∷ xs) (suc k) y e = unmapped xs k y e

  pub map_long : (xs : List A) → length (map f xs) ≡ length xs
  map_long [] = refl
  map_long (x ∷ xs) = ap suc (map_long xs)
