-- What a search by number finds among assertions whose numbers rise.
use Rattle.std.proofs.Common.{◌≡◌, ℕ, ◌<◌, ◌≤◌, false, List, length, get_or, None, refl, sym, ap, arith, eq-eqb, inl, inr}
use Rattle.std.specs.Prelude.{◌==◌, AllPairs, find}
use Rattle.std.specs.List.Sorted.{IsNonDecreasingBy, IsPartitionPoint}
use Rattle.std.specs.Option.{option_and_then}
use Rattle.std.specs.Ordering.{nat_cmp, ordering_index}
use Rattle.std.specs.declared.cmp.Ordering.TheVariants.{Less, Equal, Greater}
use Rattle.std.proofs.lemmas.Bool.{cases_lt}
use Rattle.std.proofs.lemmas.Bool.Decides.{nat_tests}
use Rattle.std.proofs.lemmas.Cmp.{ranked}
use Rattle.scope_selectors.specs.declared.live.Live.{Live}
use Rattle.scope_selectors.proofs.Searching.{find_first, find_nothing}

differs : (m n : ℕ) → m < n → (m == n) ≡ false
differs m n h = grind (arith, nat_tests)

exceeds : (m n : ℕ) → n < m → (m == n) ≡ false
exceeds m n h = grind (arith, nat_tests)

module _ (xs : List Live) (a : ℕ) (rises : AllPairs (λ (x y : Live). x.assertion < y.assertion) xs) where
  -- the one that has the number gives the name
  pub name_found : (i : ℕ) (d : Live) → i < length xs → ((e : Live) → nat_cmp (get_or xs i e).assertion a ≡ Equal) → (get_or xs i d).name ≡ option_and_then (λ (l : Live). l.name) (find (λ l. l.assertion == a) xs)
  name_found i d lt equal =
      let here : (get_or xs i d).assertion ≡ a = ranked _ a _ (sym (equal d)) in
      rw (find_first (λ (l : Live). l.assertion == a) xs i d lt (eq-eqb _ _ here) (λ k h. let below = rises k i d h lt in differs _ a (omega (arith, below, here)))) refl

  -- the comparisons with the number rise along the list, as a binary search asks
  comparisons_rise : IsNonDecreasingBy (λ (l : Live). ordering_index (nat_cmp l.assertion a)) xs
  comparisons_rise i j d le lt =
      let numbers_rise : (get_or xs i d).assertion ≤ (get_or xs j d).assertion = grind (arith, rises i j d, λ (same : i ≡ j). ap (λ k. (get_or xs k d).assertion) same) in
      grind (arith, nat_tests)

  -- where the search finds none, there is none
  pub name_missing : (i : ℕ) → (IsNonDecreasingBy (λ (l : Live). ordering_index (nat_cmp l.assertion a)) xs → IsPartitionPoint (λ (l : Live). nat_cmp l.assertion a ≡ Less) (λ (l : Live). nat_cmp l.assertion a ≡ Greater) xs i) → None ≡ option_and_then (λ (l : Live). l.name) (find (λ l. l.assertion == a) xs)
  name_missing i parted =
      let parts = parted comparisons_rise in
      rw (find_nothing (λ (l : Live). l.assertion == a) xs (λ k d h.
      elim (cases_lt k i) [
        | inl below ↦ differs _ a (ranked _ a _ (sym (parts.0 k d (omega arith) below)))
        | inr above ↦ exceeds _ a (ranked _ a _ (sym (parts.1 k d above h)))
      ])) refl
