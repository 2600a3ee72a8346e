-- What an image brings: no array, no equality of arrays and no index that its term does not have through arguments.
use Rattle.std.specs.Prelude.{◌≡◌, ℕ, true, List, Option, Some, option_to_list}
use Rattle.smt_terms.specs.declared.node.Node.{Node}
use Rattle.smt_terms.specs.Ranks.{is_array}
use Rattle.smt_terms.specs.Terms.{sort_of}
use Rattle.theory_terms.specs.declared.shape.Shape.TheVariants.{Selecting, Equating}
use Rattle.theory_terms.specs.Shapes.{shape_at}
use Rattle.term_reach.specs.Reach.{arguments, Reaches}

-- x is t, or t reaches it through arguments
abbrev pub IsUnder : List Node → ℕ → ℕ → Type 0
IsUnder nodes t x = Reaches (arguments nodes) t x

-- the image of a term, if it has one
abbrev pub followed : (ℕ → Option ℕ) → ℕ → List ℕ
followed image t = option_to_list (image t)

-- u is t, or images lead from t to it, one after the other
abbrev pub Becomes : (ℕ → Option ℕ) → ℕ → ℕ → Type 0
Becomes image t u = Reaches (followed image) t u

-- a select under t whose index becomes this one
pub record HasIndex (nodes : List Node) (image : ℕ → Option ℕ) (t index : ℕ) : Type 0 where
  pub select : ℕ
  pub array : ℕ
  pub old : ℕ
  pub under : IsUnder nodes t select
  pub shape : shape_at nodes select ≡ Selecting array old
  pub becomes : Becomes image old index

-- Each array under u is under t, and so is each equality of arrays; and each select under u has an index that the index of one
-- under t becomes.
pub record IsBrought (nodes : List Node) (image : ℕ → Option ℕ) (t u : ℕ) : Type 0 where
  pub arrays : (x : ℕ) → IsUnder nodes u x → is_array (sort_of nodes x) ≡ true → IsUnder nodes t x
  pub equalities : (x a b : ℕ) → IsUnder nodes u x → shape_at nodes x ≡ Equating a b → is_array (sort_of nodes a) ≡ true → IsUnder nodes t x
  pub indexes : (x a i : ℕ) → IsUnder nodes u x → shape_at nodes x ≡ Selecting a i → HasIndex nodes image t i

-- each image is brought by its term
abbrev pub AreBrought : List Node → (ℕ → Option ℕ) → Type 0
AreBrought nodes image = (t u : ℕ) → image t ≡ Some u → IsBrought nodes image t u
