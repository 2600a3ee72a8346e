-- Equalities of arrays, and the selects of their sides at their witness.
use Rattle.std.specs.Prelude.{◌≡◌, ◌⊎◌, ℕ, Bool, false, List, Some, None, Contains, IsSome}
use Rattle.smt_terms.specs.declared.sort.Sort.TheVariants as sort
use Rattle.smt_terms.specs.declared.node.Node.{Node}
use Rattle.smt_terms.specs.Bits.{TermBits, image_in}
use Rattle.smt_terms.specs.Terms.{sort_of}
use Rattle.smt_terms.specs.Values.{Value, is_true}
use Rattle.theory_terms.specs.declared.shape.Shape.TheVariants.{Equating}
use Rattle.theory_terms.specs.Shapes.{shape_at}
use Rattle.theory_terms.specs.Lemmas.{watch}
use Rattle.theory_terms.specs.declared.lemma.Lemma.{Lemma}
use Rattle.theory_terms.specs.declared.lemma.Lemma.TheVariants.{Witness}
use Rattle.theory_terms.specs.declared.atom.Watch.{Watch}
use Rattle.access_tables.specs.Ready.{IsOwn}
use Rattle.access_tables.specs.Held.{HasRow, assigned_value}
use Rattle.access_walk.specs.declared.witnesses.Watched.{Watched}
use Rattle.access_walk.specs.Networks.{AreApart}
use Rattle.access_walk.specs.Walked.{IsFalseLemma}

-- each equality of arrays has the selects of its sides at their witness
abbrev pub HaveWatches : List Node → List TermBits → (ℕ → Type 0) → Type 0
HaveWatches nodes bits Here =
    (t a b n m : ℕ) → IsOwn Here (image_in bits) t → shape_at nodes t ≡ Equating a b → sort_of nodes a ≡ sort.Array n m → IsSome (watch nodes a b)

-- an equality of arrays among these terms, with its selects, words of one width; the three have bits
pub record IsWatched (nodes : List Node) (bits : List TermBits) (Here : ℕ → Type 0) (w : Watched) : Type 0 where
  pub left : ℕ
  pub right : ℕ
  pub index : ℕ
  pub element : ℕ
  pub own : IsOwn Here (image_in bits) w.equality
  pub shape : shape_at nodes w.equality ≡ Equating left right
  pub sides : sort_of nodes left ≡ sort.Array index element
  pub is : watch nodes left right ≡ Some w.watch
  pub truth : sort_of nodes w.equality ≡ sort.Bool
  pub left_sort : sort_of nodes w.watch.left ≡ sort.Word element
  pub right_sort : sort_of nodes w.watch.right ≡ sort.Word element
  pub equality_bits : HasRow nodes bits w.equality
  pub left_bits : HasRow nodes bits w.watch.left
  pub right_bits : HasRow nodes bits w.watch.right

-- the term is no equality of arrays, or has an image
abbrev pub IsNoEquality : List Node → List TermBits → ℕ → Type 0
IsNoEquality nodes bits t = (a b n m : ℕ) → image_in bits t ≡ None → shape_at nodes t ≡ Equating a b → sort_of nodes a ≡ sort.Array n m → ⊥

-- the equality is false, and its selects have one value
abbrev pub IsJoined : (ℕ → Value) → Watched → Type 0
IsJoined val w = (is_true (val w.equality) ≡ false) × (val w.watch.left ≡ val w.watch.right)

-- exactly the equalities of arrays among these terms
pub record AreWatches (nodes : List Node) (bits : List TermBits) (Here : ℕ → Type 0) (watches : List Watched) : Type 0 where
  pub each : (w : Watched) → Contains watches w → IsWatched nodes bits Here w
  pub all : (t a b n m : ℕ) → IsOwn Here (image_in bits) t → shape_at nodes t ≡ Equating a b → sort_of nodes a ≡ sort.Array n m
      → (w : Watched) × Contains watches w × (w.equality ≡ t)

-- The lemma is false under the assignment, and some arrays that are said to differ have one word at their witness.
pub record IsWitnessConflict (nodes : List Node) (bits : List TermBits) (f : ℕ → Bool) (Here : ℕ → Type 0) (lemma : Lemma) : Type 0 where
  pub equality : ℕ
  pub is : lemma ≡ Witness equality
  pub falses : IsFalseLemma nodes bits f lemma
  pub never : AreApart nodes (image_in bits) Here (assigned_value nodes bits f) → ⊥

-- the selects of these arrays at their witness have different values
abbrev pub AreApartAt : List Node → (ℕ → Value) → ℕ → ℕ → Type 0
AreApartAt nodes val a b = (w : Watch) × (watch nodes a b ≡ Some w) × (val w.left ≡ val w.right → ⊥)

-- each lemma is such a conflict, and of each equality that is false its arrays differ at their witness or its lemma is among them
pub record AreWitnessConflicts (nodes : List Node) (bits : List TermBits) (f : ℕ → Bool) (Here : ℕ → Type 0) (lemmas : List Lemma) : Type 0 where
  pub each : (l : Lemma) → Contains lemmas l → IsWitnessConflict nodes bits f Here l
  pub all : (t a b n m : ℕ) → IsOwn Here (image_in bits) t → shape_at nodes t ≡ Equating a b → sort_of nodes a ≡ sort.Array n m → is_true (assigned_value nodes bits f t) ≡ false
      → AreApartAt nodes (assigned_value nodes bits f) a b ⊎ Contains lemmas (Witness t)
