-- What terms reach by images stands to what they reach through arguments alone.
use Rattle.std.specs.Prelude.{◌≡◌, ℕ, true, List, Option, Some}
use Rattle.smt_terms.specs.declared.node.Node.{Node}
use Rattle.smt_terms.specs.Ranks.{is_array}
use Rattle.smt_terms.specs.Terms.{sort_of}
use Rattle.theory_terms.specs.declared.shape.Shape.TheVariants.{Equating}
use Rattle.theory_terms.specs.declared.atom.Landing.{Landing}
use Rattle.theory_terms.specs.Shapes.{shape_at}
use Rattle.theory_terms.specs.Lemmas.{start_of}
use Rattle.term_reach.specs.Reach.{IsReached}
use Rattle.access_tables.specs.Leading.{leads}
use Rattle.array_watches.specs.Needed.{index_at}
use Rattle.array_watches.specs.Watched.{Reached}
use Rattle.array_images.specs.Brought.{Becomes}

-- the term is reached by images, and by arguments and watches of terms without one
abbrev pub IsLed : List Node → (ℕ → Option ℕ) → List ℕ → ℕ → Type 0
IsLed nodes image roots = IsReached (leads nodes image) roots

-- The index of a select or a store that is reached through arguments, or the witness of an equality of arrays that is, becomes
-- this index.
pub record HasOldIndex (nodes : List Node) (image : ℕ → Option ℕ) (roots : List ℕ) (index : ℕ) : Type 0 where
  pub term : ℕ
  pub old : ℕ
  pub reached : Reached nodes roots term
  pub is : index_at nodes term ≡ Some old
  pub becomes : Becomes image old index

-- A term that is an array, or an equality of arrays, is reached through arguments alone; and the index of a select or of a store
-- is what an index that was there becomes.
pub record IsCovered (nodes : List Node) (image : ℕ → Option ℕ) (roots : List ℕ) (t : ℕ) : Type 0 where
  pub array : is_array (sort_of nodes t) ≡ true → Reached nodes roots t
  pub equality : (a b : ℕ) → shape_at nodes t ≡ Equating a b → is_array (sort_of nodes a) ≡ true → Reached nodes roots t
  pub index : (l : Landing) → start_of t (shape_at nodes t) ≡ Some l → HasOldIndex nodes image roots l.index
