-- What a check that has made its watches can rely on.
use Rattle.std.specs.Prelude.{◌≡◌, ◌⊎◌, ◌<◌, ◌≤◌, ◌^◌, ℕ, true, List, ◌++◌, length, Contains, IsSome, Some}
use Rattle.smt_terms.specs.declared.sort.Sort.TheVariants as sort
use Rattle.smt_terms.specs.declared.node.Op.TheVariants.{Word}
use Rattle.smt_terms.specs.declared.node.Node.{Node}
use Rattle.smt_terms.specs.Nodes.{node_at, leaf}
use Rattle.smt_terms.specs.Ranks.{is_array}
use Rattle.smt_terms.specs.Terms.{sort_of, IsTermList}
use Rattle.theory_terms.specs.declared.shape.Shape.TheVariants.{Filling, Equating}
use Rattle.theory_terms.specs.declared.atom.Watch.{Watch}
use Rattle.theory_terms.specs.Shapes.{shape_at, term_of}
use Rattle.theory_terms.specs.Lemmas.{watch, witness_node, select_node}
use Rattle.term_reach.specs.Reach.{arguments, IsReached, IsOnce}
use Rattle.array_watches.specs.Needed.{index_at}

-- the term is reached through arguments
abbrev pub Reached : List Node → List ℕ → ℕ → Type 0
Reached nodes roots = IsReached (arguments nodes) roots

-- a reached equality of these arrays
pub record IsEquality (nodes : List Node) (roots : List ℕ) (t a b : ℕ) : Type 0 where
  pub here : Reached nodes roots t
  pub shape : shape_at nodes t ≡ Equating a b
  pub arrays : is_array (sort_of nodes a) ≡ true

-- a reached constant array of this index width
pub record IsConstant (nodes : List Node) (roots : List ℕ) (t n : ℕ) : Type 0 where
  pub element : ℕ
  pub width : ℕ
  pub here : Reached nodes roots t
  pub shape : shape_at nodes t ≡ Filling element
  pub sort : sort_of nodes t ≡ sort.Array n width

-- these are the indexes of a width, each once: those of reached selects and stores, and the witnesses of reached equalities
pub record AreIndexes (nodes made : List Node) (roots : List ℕ) (n : ℕ) (indexes : List ℕ) : Type 0 where
  pub once : IsOnce indexes
  pub all : (t i : ℕ) → Reached nodes roots t → index_at made t ≡ Some i → sort_of made i ≡ sort.Word n → Contains indexes i
  pub only : (i : ℕ) → Contains indexes i → (t : ℕ) × Reached nodes roots t × (index_at made t ≡ Some i) × (sort_of made i ≡ sort.Word n)

-- the words of a width from 0 up to the number of its indexes, or up to its last, are made
pub record HasIndexWords (nodes made : List Node) (roots : List ℕ) (n : ℕ) : Type 0 where
  pub indexes : List ℕ
  pub are : AreIndexes nodes made roots n indexes
  pub words : (x : ℕ) → x < 2 ^ n → x ≤ length indexes → IsSome (term_of made (leaf (Word n x)))

-- an index word of a width of which there is a reached constant array
pub record IsIndexWord (nodes made : List Node) (roots : List ℕ) (n : Node) : Type 0 where
  pub width : ℕ
  pub number : ℕ
  pub array : ℕ
  pub constant : IsConstant nodes roots array width
  pub indexes : List ℕ
  pub are : AreIndexes nodes made roots width indexes
  pub within : (number < 2 ^ width) × (number ≤ length indexes)
  pub is : n ≡ leaf (Word width number)

-- the witness of the sides of a reached equality, or the select of one of them there
pub record IsOfWatch (nodes made : List Node) (roots : List ℕ) (n : Node) : Type 0 where
  pub equality : ℕ
  pub left : ℕ
  pub right : ℕ
  pub is_equality : IsEquality nodes roots equality left right
  pub found : Watch
  pub is_found : watch made left right ≡ Some found
  pub is : (n ≡ witness_node left right) ⊎ ((n ≡ select_node left found.witness) ⊎ (n ≡ select_node right found.witness))

-- The terms are the old ones, and behind them nothing but the witnesses of reached equalities of arrays, the selects of their
-- sides there, and index words; none of these is missing.
pub record IsWatched (nodes made : List Node) (roots : List ℕ) : Type 0 where
  pub list : IsTermList made
  pub more : List Node
  pub begins : made ≡ nodes ++ more
  pub watches : (t a b : ℕ) → IsEquality nodes roots t a b → IsSome (watch made a b)
  pub words : (t n : ℕ) → IsConstant nodes roots t n → HasIndexWords nodes made roots n
  pub only : (t : ℕ) → length nodes ≤ t → t < length made → IsOfWatch nodes made roots (node_at made t) ⊎ IsIndexWord nodes made roots (node_at made t)
