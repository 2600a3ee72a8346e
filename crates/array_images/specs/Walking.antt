-- What a session that made its watches before it rewrote has where a walk goes by images.
use Rattle.std.specs.Prelude.{◌≡◌, ◌<◌, ◌≤◌, ◌^◌, ℕ, List, ◌++◌, All, Contains, length, IsSome, Option, Some}
use Rattle.smt_terms.specs.declared.sort.Sort.TheVariants as sort
use Rattle.smt_terms.specs.declared.node.Op.TheVariants.{Word}
use Rattle.smt_terms.specs.declared.node.Node.{Node}
use Rattle.smt_terms.specs.Nodes.{leaf, node_at}
use Rattle.smt_terms.specs.Terms.{IsTermList, sort_of}
use Rattle.theory_terms.specs.declared.shape.Shape.TheVariants.{Filling, Equating}
use Rattle.theory_terms.specs.declared.atom.Landing.{Landing}
use Rattle.theory_terms.specs.Shapes.{shape_at, term_of}
use Rattle.theory_terms.specs.Lemmas.{start_of, watch}
use Rattle.term_reach.specs.Reach.{IsAcyclic}
use Rattle.access_tables.specs.Leading.{leads}
use Rattle.access_tables.specs.Ready.{IsOwn, AreImages}
use Rattle.array_watches.specs.Needed.{watched}
use Rattle.array_watches.specs.Watched.{IsIndexWord}
use Rattle.array_images.specs.Brought.{Becomes, AreBrought}
use Rattle.array_images.specs.Covered.{IsLed}

-- The terms begin with those of a check that made its watches and index words over the old ones; then images were given, which
-- bring nothing of arrays, and no way leads back.
pub record IsRewritten (old nodes : List Node) (image : ℕ → Option ℕ) (roots : List ℕ) : Type 0 where
  pub list : IsTermList nodes
  pub more : List Node
  pub begins : nodes ≡ watched old roots ++ more
  pub held : All (λ t. t < length old) roots
  pub acyclic : IsAcyclic (leads nodes image)
  pub images : AreImages nodes image
  pub brought : AreBrought nodes image

-- the term is this word, which is an index word of the check
pub record IsMadeWord (old nodes : List Node) (roots : List ℕ) (n k w : ℕ) : Type 0 where
  pub held : w < length nodes
  pub found : term_of nodes (leaf (Word n k)) ≡ Some w
  pub sort : sort_of nodes w ≡ sort.Word n
  pub is : IsIndexWord old (watched old roots) roots (node_at nodes w)

-- Each index of a width that a select or a store has which is reached by images becomes one of these, and the words of the width
-- from 0 up to their number, or up to its last, are made. Terms that become one have its bits, so they count once.
pub record HasMadeWords (old nodes : List Node) (image : ℕ → Option ℕ) (roots : List ℕ) (n : ℕ) : Type 0 where
  pub indexes : List ℕ
  pub among : (t : ℕ) (l : Landing) → IsOwn (IsLed nodes image roots) image t → start_of t (shape_at nodes t) ≡ Some l → sort_of nodes l.index ≡ sort.Word n
      → (i : ℕ) × Contains indexes i × Becomes image l.index i
  pub words : (k : ℕ) → k < 2 ^ n → k ≤ length indexes → (w : ℕ) × IsMadeWord old nodes roots n k w

-- Each equality of arrays that is reached by images has its watch, and each constant array the index words of its width.
pub record HasWatches (old nodes : List Node) (image : ℕ → Option ℕ) (roots : List ℕ) : Type 0 where
  pub watches : (t a b n m : ℕ) → IsOwn (IsLed nodes image roots) image t → shape_at nodes t ≡ Equating a b → sort_of nodes a ≡ sort.Array n m → IsSome (watch nodes a b)
  pub words : (t x n m : ℕ) → IsOwn (IsLed nodes image roots) image t → shape_at nodes t ≡ Filling x → sort_of nodes t ≡ sort.Array n m → HasMadeWords old nodes image roots n
