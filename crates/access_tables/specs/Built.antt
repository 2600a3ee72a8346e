-- Interpretations that have an assignment's values and a table's arrays.
use Rattle.std.specs.Prelude.{◌≡◌, ℕ, ◌<◌, ◌^◌, true, false, List, map, Option, Some}
use Rattle.smt_terms.specs.declared.sort.Sort.{Sort}
use Rattle.smt_terms.specs.declared.sort.Sort.TheVariants as sort
use Rattle.smt_terms.specs.declared.node.Node.{Node}
use Rattle.smt_terms.specs.Nodes.{node_at}
use Rattle.smt_terms.specs.Terms.{sort_of}
use Rattle.smt_terms.specs.Values.{Value, VArray, Elements, held_at, read_at, Interpretation, is_true, number_of, value}
use Rattle.smt_terms.specs.Evaluations.{has_no_witness}
use Rattle.theory_terms.specs.declared.shape.Shape.TheVariants.{Selecting, Storing, Filling, Choosing, Equating, Applying, Declaring}
use Rattle.theory_terms.specs.declared.atom.Watch.{Watch}
use Rattle.theory_terms.specs.Shapes.{IsPlain, shape_at}
use Rattle.theory_terms.specs.Lemmas.{watch}
use Rattle.access_tables.specs.Ready.{IsOwn}

-- a word at each index of each array, with which the values of all terms agree
pub record IsCoherent (nodes : List Node) (image : ℕ → Option ℕ) (Here : ℕ → Type 0) (val : ℕ → Value) (at : ℕ → ℕ → ℕ) : Type 0 where
  pub selected : (t a i : ℕ) → IsOwn Here image t → shape_at nodes t ≡ Selecting a i → at a (number_of (val i)) ≡ number_of (val t)
  pub stored : (t b j x : ℕ) → IsOwn Here image t → shape_at nodes t ≡ Storing b j x → at t (number_of (val j)) ≡ number_of (val x)
  pub kept : (t b j x k : ℕ) → IsOwn Here image t → shape_at nodes t ≡ Storing b j x → (k ≡ number_of (val j) → ⊥) → at t k ≡ at b k
  pub filled : (t x n m k : ℕ) → IsOwn Here image t → shape_at nodes t ≡ Filling x → sort_of nodes t ≡ sort.Array n m → k < 2 ^ n → at t k ≡ number_of (val x)
  pub chosen : (t c a b n m k : ℕ) → IsOwn Here image t → shape_at nodes t ≡ Choosing c a b → sort_of nodes t ≡ sort.Array n m → is_true (val c) ≡ true → at t k ≡ at a k
  pub refused : (t c a b n m k : ℕ) → IsOwn Here image t → shape_at nodes t ≡ Choosing c a b → sort_of nodes t ≡ sort.Array n m → is_true (val c) ≡ false → at t k ≡ at b k
  pub equal : (t a b n m k : ℕ) → IsOwn Here image t → shape_at nodes t ≡ Equating a b → sort_of nodes a ≡ sort.Array n m → is_true (val t) ≡ true → at a k ≡ at b k
  pub differ : (t a b n m : ℕ) → IsOwn Here image t → shape_at nodes t ≡ Equating a b → sort_of nodes a ≡ sort.Array n m → is_true (val t) ≡ false
      → (w : Watch) × (watch nodes a b ≡ Some w) × (val w.left ≡ val w.right → ⊥)

-- the value is an array that has these words
abbrev pub HasWords : ℕ → ℕ → Value → (ℕ → ℕ) → Type 0
HasWords n m v at = (a : Elements) × (v ≡ VArray n m a) × ((k : ℕ) → k < 2 ^ n → held_at a k ≡ at k)

-- the interpretation has the values of declared constants and of applications, and the words of declared arrays
pub record IsBuilt (nodes : List Node) (image : ℕ → Option ℕ) (Here : ℕ → Type 0) (val : ℕ → Value) (at : ℕ → ℕ → ℕ) (M : Interpretation) : Type 0 where
  pub constants : (t d : ℕ) (q : Sort) → IsOwn Here image t → shape_at nodes t ≡ Declaring d q → IsPlain q → read_at q (M.constants d) ≡ val t
  pub functions : (t d : ℕ) → IsOwn Here image t → shape_at nodes t ≡ Applying d
      → read_at (sort_of nodes t) (M.functions d (map val (node_at nodes t).args)) ≡ val t
  pub arrays : (t d n m : ℕ) → IsOwn Here image t → shape_at nodes t ≡ Declaring d (sort.Array n m)
      → HasWords n m (read_at (sort.Array n m) (M.constants d)) (at t)

-- Under the interpretation each of the terms in which no witness stands has its value: a Bool or a word the assignment's, an
-- array the words of the table.
pub record Agrees (nodes : List Node) (Here : ℕ → Type 0) (val : ℕ → Value) (at : ℕ → ℕ → ℕ) (M : Interpretation) : Type 0 where
  pub terms : (t : ℕ) → Here t → IsPlain (sort_of nodes t) → has_no_witness nodes t ≡ true → value M nodes t ≡ val t
  pub arrays : (t n m : ℕ) → Here t → sort_of nodes t ≡ sort.Array n m → has_no_witness nodes t ≡ true → HasWords n m (value M nodes t) (at t)
