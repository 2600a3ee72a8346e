-- Lists that are sorted by a number first.
use Rattle.std.proofs.Common.{Ordering, Less, ◌≡◌, ℕ, ◌+◌, ◌≤◌, Bool, true, false, List, refl, sym, ap, ◌∙◌, arith}
use Rattle.std.specs.Prelude.{nat_lt, slice_index_or}
use Rattle.std.specs.Ordering.{is_lt, nat_cmp, ordering_then}
use Rattle.std.specs.List.Sorted.{IsSortedByKey, IsNonDecreasingBy}
use Rattle.std.proofs.lemmas.Bool.{ltb-false}
use Rattle.std.proofs.lemmas.List.Sorted.{IsNonDecreasingBy-from_all_adjacent}

first_below : (a b : ℕ) (o : Ordering) → is_lt (ordering_then (nat_cmp a b) o) ≡ false → b ≤ a
first_below a b o h = go (nat_lt a b) refl where
  go : (t : Bool) → nat_lt a b ≡ t → b ≤ a
  go false e = ltb-false a b e
  go true e =
      let less : nat_cmp a b ≡ Less = rw e refl in
      let z : is_lt (ordering_then Less o) ≡ false = ap (λ x. is_lt (ordering_then x o)) (sym less) ∙ h in
      let f : ⊥ = cc in absurd f

pub rises : {X : Type 0} (n : X → ℕ) (key : X → ℕ × Bool) (R : Bool → Bool → Ordering) → ((x : X) → (key x).0 ≡ n x) → (xs : List X) → IsSortedByKey key (λ x y. ordering_then (nat_cmp x.0 y.0) (R x.1 y.1)) xs → IsNonDecreasingBy n xs
rises {X} n key R same xs h = IsNonDecreasingBy-from_all_adjacent n xs (λ k d lt.
    let a : X = slice_index_or xs k d in
    let b : X = slice_index_or xs (k + 1) d in
    let le : (key a).0 ≤ (key b).0 = first_below (key b).0 (key a).0 (R (key b).1 (key a).1) (h k d (omega arith) lt) in
    let p = same a in
    let q = same b in
    omega (arith, le, p, q))
