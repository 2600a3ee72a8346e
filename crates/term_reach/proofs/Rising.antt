-- Numbers that rise, and numbers that stand once.
use Rattle.std.proofs.Common.{◌≡◌, ℕ, suc, ◌<◌, List, ◌∷◌, get_or, Some, refl, sym, ap, ◌∙◌, subst, ⊎_elim, arith}
use Rattle.std.specs.Prelude.{◌==◌, AllPairs, Contains, slice_get}
use Rattle.std.specs.List.{IsDistinct}
use Rattle.std.specs.List.Sorted.{IsNonDecreasing}
use Rattle.std.proofs.lemmas.Bool.{cases_eq, eq-eqb, ne_eqb}
use Rattle.std.proofs.lemmas.Option.{slice_get-get_or}
use Rattle.std.proofs.lemmas.List.Kept.{AllPairs-from_increasing}
use Rattle.std.proofs.lemmas.Map.Keys.{IsDistinct-from_apart, IsStrictlyIncreasing-from_distinct}
use Rattle.term_reach.specs.Reach.{IsOnce}

abbrev pub Rises : List ℕ → Type 0
Rises = AllPairs (λ x y. x < y)

abbrev pub AreApart : List ℕ → Type 0
AreApart = IsDistinct (λ x y. x == y)

pub equal_flips : (x y : ℕ) → (x == y) ≡ (y == x)
equal_flips x y = ⊎_elim (λ e. eq-eqb x y e ∙ sym (eq-eqb y x (sym e))) (λ ne. ne_eqb x y ne ∙ sym (ne_eqb y x (λ e. ne (sym e)))) (cases_eq x y)

pub sorted_rises : (xs : List ℕ) → IsNonDecreasing xs → AreApart xs → Rises xs
sorted_rises xs h k = AllPairs-from_increasing xs (IsStrictlyIncreasing-from_distinct xs h k)

pub once_rest : (t : ℕ) (ts : List ℕ) → IsOnce (t ∷ ts) → IsOnce ts
once_rest t ts h j k u e f = let s : suc j ≡ suc k = h (suc j) (suc k) u e f in omega (arith, s)

pub once_apart : (t : ℕ) (ts : List ℕ) → IsOnce (t ∷ ts) → Contains ts t → ⊥
once_apart t ts h c = let s : 0 ≡ suc c.0 = h 0 (suc c.0) t refl (subst (λ u. slice_get ts c.0 ≡ Some u) c.2 (slice_get-get_or ts c.0 t c.1)) in omega (arith, s)

pub all_apart : (ts : List ℕ) → IsOnce ts → AreApart ts
all_apart ts h = IsDistinct-from_apart (λ x y. x == y) ts (λ i j d less lt. ne_eqb (get_or ts i d) (get_or ts j d)
    (λ e. (let s : i ≡ j = h i j (get_or ts j d) (slice_get-get_or ts i d (omega (arith, less, lt)) ∙ ap Some e) (slice_get-get_or ts j d lt) in omega (arith, s, less))))
