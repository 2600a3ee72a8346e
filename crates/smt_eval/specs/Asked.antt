-- The values of some terms, and what they rest on.
use Rattle.std.specs.Prelude.{◌≡◌, ℕ, ◌<◌, List, [], ◌∷◌, length, slice_get, slice_index_or, Some, false}
use Rattle.smt_terms.specs.declared.node.Node.{Node}
use Rattle.smt_terms.specs.Terms.{sort_of}
use Rattle.smt_terms.specs.Values.{Interpretation, value}
use Rattle.smt_values.specs.declared.value.Value.{Value}
use Rattle.smt_values.specs.Held.{meaning, IsOfSort}
use Rattle.smt_eval.specs.Evaluated.{held_value, is_table}

-- a value for each of these terms: that under an interpretation, of the kind that the term's sort has
pub record AreValuesOf (M : Interpretation) (nodes : List Node) (terms : List ℕ) (values : List Value) : Type 0 where
  pub count : length values ≡ length terms
  pub means : (k : ℕ) → k < length terms → meaning (held_value values k) ≡ value M nodes (slice_index_or terms k 0)
  pub sorted : (k : ℕ) → k < length terms → IsOfSort (sort_of nodes (slice_index_or terms k 0)) (held_value values k)

-- ---- on the way

-- this place has the value of a term
pub record IsValueAt (M : Interpretation) (nodes : List Node) (values : List Value) (t p : ℕ) : Type 0 where
  pub within : p < length values
  pub plain : is_table (held_value values p) ≡ false
  pub means : meaning (held_value values p) ≡ value M nodes t

-- the places of terms among others
abbrev pub AreAtPlaces : List ℕ → List ℕ → List ℕ → Type 0
AreAtPlaces reached [] [] = Unit {0}
AreAtPlaces reached [] (p ∷ ps) = ⊥
AreAtPlaces reached (t ∷ ts) [] = ⊥
AreAtPlaces reached (t ∷ ts) (p ∷ ps) = (slice_get reached p ≡ Some t) × AreAtPlaces reached ts ps

-- each of the terms has its value at its place
abbrev pub AreComputed : Interpretation → List Node → List ℕ → List Value → Type 0
AreComputed M nodes reached values = (k t : ℕ) → slice_get reached k ≡ Some t → IsValueAt M nodes values t k
