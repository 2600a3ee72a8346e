-- The axioms of ArraysEx (SMT-LIB 2.6).
use Rattle.std.proofs.Common.{◌≡◌, ℕ, ◌<◌, ◌^◌, true, refl, sym, ap, ◌∙◌}
use Rattle.std.specs.Prelude.{◌==◌, ◌↔◌}
use Rattle.std.proofs.lemmas.Bool.{eq-eqb}
use Rattle.smt_terms.specs.declared.sort.Sort.TheVariants as sort
use Rattle.smt_terms.specs.Values.{Value, VWord, held_at, HasSort, number_of, same_value, select_of, store_of}
use Rattle.smt_terms.proofs.Arrays.{stored_same, stored_other, each_all_below}
use Rattle.theory_terms.proofs.Sound.{same_arrays}

-- what is stored at an index is selected there
pub stored_there : (n m : ℕ) (A I X : Value) → HasSort (sort.Array n m) A → HasSort (sort.Word n) I → HasSort (sort.Word m) X → select_of (store_of A I X) I ≡ X
stored_there n m A I X a i x = rw (a.1, i.1, x.1) (ap (VWord m) (stored_same a.0 i.0 x.0 i.0 refl))

-- and every other index has what it had
pub others_stay : (n m : ℕ) (A I J X : Value) → HasSort (sort.Array n m) A → HasSort (sort.Word n) I → HasSort (sort.Word n) J → HasSort (sort.Word m) X → (I ≡ J → ⊥) → select_of (store_of A I X) J ≡ select_of A J
others_stay n m A I J X a i j x ne =
    let other : j.0 ≡ i.0 → ⊥ = λ e. ne (i.1 ∙ ap (VWord n) (sym e) ∙ sym j.1) in
    rw (a.1, i.1, j.1, x.1) (ap (VWord m) (stored_other a.0 i.0 x.0 j.0 other))

word_number : (m x y : ℕ) → VWord m x ≡ VWord m y → x ≡ y
word_number m x y e = ap number_of e

all_same : (n m : ℕ) (A B : Value) → HasSort (sort.Array n m) A → HasSort (sort.Array n m) B → ((I : Value) → HasSort (sort.Word n) I → select_of A I ≡ select_of B I) → same_value A B ≡ true
all_same n m A B a b h = rw (a.1, b.1) (each_all_below (λ i. held_at a.0 i == held_at b.0 i) (2 ^ n) each) where
  each : (i : ℕ) → i < 2 ^ n → (held_at a.0 i == held_at b.0 i) ≡ true
  each i lt =
      let here : select_of A (VWord n i) ≡ select_of B (VWord n i) = h (VWord n i) (i, refl, lt) in
      let words : VWord m (held_at a.0 i) ≡ VWord m (held_at b.0 i) = rw (a.1, b.1) at here in
      eq-eqb (held_at a.0 i) (held_at b.0 i) (word_number m (held_at a.0 i) (held_at b.0 i) words)

-- arrays are equal exactly where they have the same element at every index
pub same_elements : (n m : ℕ) (A B : Value) → HasSort (sort.Array n m) A → HasSort (sort.Array n m) B → (same_value A B ≡ true) ↔ ((I : Value) → HasSort (sort.Word n) I → select_of A I ≡ select_of B I)
same_elements n m A B a b = ((λ e I i. same_arrays n m A B I a b i e), all_same n m A B a b)
