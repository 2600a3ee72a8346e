-- The least number that is not among rising ones.
use Rattle.std.proofs.Common.{◌≡◌, ℕ, ◌+◌, ◌<◌, ◌≤◌, List, length, Some, subst, ⊎_elim, arith}
use Rattle.std.specs.Prelude.{slice_get, slice_index_or, Contains}
use Rattle.std.specs.List.Sorted.{IsNonDecreasing}
use Rattle.std.proofs.lemmas.Bool.{cases_lt}
use Rattle.access_walk.specs.Spared.{IsGap}
use Rattle.access_walk.proofs.Lists.{place_of, at_place, within, read, same_at}

module _ (numbers : List ℕ) where
  -- the numbers before a place are below the gap, and all below the gap are there
  pub record IsGapTo (count gap : ℕ) : Type 0 where
    pub small : gap ≤ count
    pub below : (j x : ℕ) → j < count → slice_get numbers j ≡ Some x → x < gap
    pub each : (k : ℕ) → k < gap → Contains numbers k

  pub gap_none : IsGapTo 0 0
  gap_none = record { small = omega arith; below = λ j x lt e. absurd (omega (arith, lt)); each = λ k lt. absurd (omega (arith, lt)) }

  later : IsNonDecreasing numbers → (i j x y : ℕ) → i ≤ j → slice_get numbers i ≡ Some x → slice_get numbers j ≡ Some y → x ≤ y
  later rise i j x y le ei ej =
      let r = rise i j 0 le (within numbers j y ej) in
      let p : slice_index_or numbers i 0 ≡ x = read numbers i x 0 ei in
      let q : slice_index_or numbers j 0 ≡ y = read numbers j y 0 ej in
      omega (arith, r, p, q)

  pub gap_found : IsNonDecreasing numbers → (count gap x : ℕ) → IsGapTo count gap → slice_get numbers count ≡ Some x → gap < x → IsGap numbers gap
  gap_found rise count gap x h e more = record {
    apart = λ c.
        let at = at_place numbers gap c in
        ⊎_elim (λ lt. (let b = h.below at.0 gap lt at.1 in omega (arith, b)))
        (λ le. (let b = later rise count at.0 x gap le e at.1 in omega (arith, b, more)))
        (cases_lt at.0 count);
    least = h.each;
  }

  pub gap_more : (count gap : ℕ) → IsGapTo count gap → slice_get numbers count ≡ Some gap → IsGapTo (count + 1) (gap + 1)
  gap_more count gap h e = record {
    small = let s = h.small in omega (arith, s);
    below = λ j x lt at.
        ⊎_elim (λ less. (let b = h.below j x less at in omega (arith, b)))
        (λ le. (let same : x ≡ gap = same_at numbers count x gap (subst (λ i. slice_get numbers i ≡ Some x) (let q : j ≡ count = omega (arith, lt, le) in q) at) e in omega (arith, same)))
        (cases_lt j count);
    each = λ k lt. ⊎_elim (λ less. h.each k less) (λ le. subst (Contains numbers) (let q : gap ≡ k = omega (arith, lt, le) in q) (place_of numbers count gap e)) (cases_lt k gap);
  }

  pub gap_kept : (count gap x : ℕ) → IsGapTo count gap → slice_get numbers count ≡ Some x → x < gap → IsGapTo (count + 1) gap
  gap_kept count gap x h e less = record {
    small = let s = h.small in omega (arith, s);
    below = λ j y lt at.
        ⊎_elim (λ before. h.below j y before at)
        (λ le. (let same : y ≡ x = same_at numbers count y x (subst (λ i. slice_get numbers i ≡ Some y) (let q : j ≡ count = omega (arith, lt, le) in q) at) e in omega (arith, same, less)))
        (cases_lt j count);
    each = h.each;
  }

  pub gap_end : (count gap : ℕ) → IsGapTo count gap → length numbers ≤ count → IsGap numbers gap
  gap_end count gap h all = record {
    apart = λ c.
        let at = at_place numbers gap c in
        let lt = within numbers at.0 gap at.1 in
        let b = h.below at.0 gap (omega (arith, lt, all)) at.1 in
        omega (arith, b);
    least = h.each;
  }
