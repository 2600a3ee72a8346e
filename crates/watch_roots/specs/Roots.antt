-- Which terms a check needs for its arrays beside those that it is about.
use Rattle.std.specs.Prelude.{◌≡◌, ◌<◌, ◌≤◌, ℕ, true, List, length, All, Contains, IsSome, Some}
use Rattle.smt_terms.specs.declared.node.Op.TheVariants.{Word}
use Rattle.smt_terms.specs.declared.node.Node.{Node}
use Rattle.smt_terms.specs.Nodes.{leaf}
use Rattle.smt_terms.specs.Ranks.{is_plain}
use Rattle.smt_terms.specs.Terms.{sort_of}
use Rattle.term_reach.specs.Reach.{arguments, IsReached}
use Rattle.theory_terms.specs.declared.shape.Shape.TheVariants.{Equating}
use Rattle.theory_terms.specs.declared.atom.Watch.{Watch}
use Rattle.theory_terms.specs.Shapes.{shape_at, term_of}
use Rattle.theory_terms.specs.Lemmas.{watch}
use Rattle.array_watches.specs.Needed.{filled_at}

-- a Bool or a word that is held
pub record IsScalar (nodes : List Node) (t : ℕ) : Type 0 where
  pub held : t < length nodes
  pub plain : is_plain (sort_of nodes t) ≡ true

-- where the term is an equality of arrays that is watched, the selects of its sides at their witness are among these
abbrev pub HasSelects : List Node → List ℕ → ℕ → Type 0
HasSelects nodes found t = (a b : ℕ) (w : Watch) → shape_at nodes t ≡ Equating a b → watch nodes a b ≡ Some w → Contains found w.left × Contains found w.right

-- the words of a width below a number are held
abbrev pub AreHeld : List Node → ℕ → ℕ → Type 0
AreHeld nodes n k = (j : ℕ) → j < k → IsSome (term_of nodes (leaf (Word n j)))

-- the words of a width are among these, from 0 up to the first that is not held, one more than there are terms at the most
abbrev pub HasWords : List Node → List ℕ → ℕ → Type 0
HasWords nodes found n = (k x : ℕ) → k ≤ length nodes → AreHeld nodes n k → term_of nodes (leaf (Word n k)) ≡ Some x → Contains found x

-- where the term is a constant array, these words of its index width are among these
abbrev pub HasIndexWords : List Node → List ℕ → ℕ → Type 0
HasIndexWords nodes found t = (n : ℕ) → filled_at nodes t ≡ Some n → HasWords nodes found n

-- what is among the old ones is among the new ones
abbrev pub AreKept : List ℕ → List ℕ → Type 0
AreKept old new = (x : ℕ) → Contains old x → Contains new x

-- what some of these terms need is found, and all that is found are Bools and words
pub record AreFound (nodes : List Node) (among found : List ℕ) : Type 0 where
  pub selects : All (HasSelects nodes found) among
  pub words : All (HasIndexWords nodes found) among
  pub scalars : All (IsScalar nodes) found

-- The terms that a check is about, and those that its arrays need beside them: of each equality of arrays that is reached through
-- arguments the selects of its sides at their witness, and of each constant array the words of its index width. All are Bools and
-- words.
pub record AreLive (nodes : List Node) (roots live : List ℕ) : Type 0 where
  pub selects : (t : ℕ) → IsReached (arguments nodes) roots t → HasSelects nodes live t
  pub words : (t : ℕ) → IsReached (arguments nodes) roots t → HasIndexWords nodes live t
  pub own : All (Contains live) roots
  pub scalars : All (IsScalar nodes) live
