-- What searches in a list find.
use Rattle.std.proofs.Common.{◌≡◌, ℕ, zero, suc, ◌<◌, Bool, true, false, List, [], ◌∷◌, length, take, get_or, Some, None, refl, sym, ap, arith}
use Rattle.std.specs.List.{filter, find}
use Rattle.std.specs.List.Sorted.{IsPartitionPoint}

module _ {X : Type 0} (p : X → Bool) where
  -- where nothing passes, nothing is kept
  filter_none : (xs : List X) → ((k : ℕ) (d : X) → k < length xs → p (get_or xs k d) ≡ false) → filter p xs ≡ []
  filter_none [] none = refl
  filter_none (x ∷ xs) none = rw (none 0 x (omega arith)) (filter_none xs (λ k d h. none (suc k) d (omega (arith, h))))

  -- where what passes stands before what does not, the front is kept
  pub filter_parted : (xs : List X) (i : ℕ) → IsPartitionPoint (λ y. p y ≡ true) (λ y. p y ≡ false) xs i → take i xs ≡ filter p xs
  filter_parted [] zero parted = refl
  filter_parted [] (suc i) parted = refl
  filter_parted (x ∷ xs) zero parted = sym (filter_none (x ∷ xs) (λ k d h. parted.1 k d (omega arith) h))
  filter_parted (x ∷ xs) (suc i) parted =
      rw (parted.0 0 x (omega arith) (omega arith))
      (ap (λ ys. x ∷ ys) (filter_parted xs i (λ k d low high. parted.0 (suc k) d (omega arith) (omega (arith, high)), λ k d low high. parted.1 (suc k) d (omega (arith, low)) (omega (arith, high)))))

  -- the first that passes is found
  pub find_first : (xs : List X) (i : ℕ) (d : X) → i < length xs → p (get_or xs i d) ≡ true → ((k : ℕ) → k < i → p (get_or xs k d) ≡ false) → find p xs ≡ Some (get_or xs i d)
  find_first [] i d lt here before = absurd (omega (arith, lt))
  find_first (x ∷ xs) zero d lt here before = rw here refl
  find_first (x ∷ xs) (suc i) d lt here before = rw (before 0 (omega arith)) (find_first xs i d (omega (arith, lt)) here (λ k h. before (suc k) (omega (arith, h))))

  -- where none passes, none is found
  pub find_nothing : (xs : List X) → ((k : ℕ) (d : X) → k < length xs → p (get_or xs k d) ≡ false) → find p xs ≡ None
  find_nothing [] none = refl
  find_nothing (x ∷ xs) none = rw (none 0 x (omega arith)) (find_nothing xs (λ k d h. none (suc k) d (omega (arith, h))))
