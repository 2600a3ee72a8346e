-- To which terms a term leads where terms may have images.
use Rattle.std.specs.Prelude.{ℕ, List, [], ◌∷◌, ◌++◌, Option, Some, None}
use Rattle.smt_terms.specs.declared.node.Node.{Node}
use Rattle.theory_terms.specs.declared.shape.Shape.{Shape}
use Rattle.theory_terms.specs.declared.shape.Shape.TheVariants.{Equating}
use Rattle.theory_terms.specs.declared.atom.Watch.{Watch}
use Rattle.theory_terms.specs.Shapes.{shape_at}
use Rattle.theory_terms.specs.Lemmas.{watch}
use Rattle.term_reach.specs.Reach.{arguments}

abbrev pub selects_of : Option Watch → List ℕ
selects_of None = []
selects_of (Some w) = w.left ∷ w.right ∷ []

-- the selects of two arrays at their witness, for an equality of arrays that has them
abbrev pub watched : List Node → Shape → List ℕ
watched nodes (Equating a b) = selects_of (watch nodes a b)
watched nodes _ = []

abbrev pub leads_by : List Node → ℕ → Option ℕ → List ℕ
leads_by nodes t (Some u) = u ∷ []
leads_by nodes t None = arguments nodes t ++ watched nodes (shape_at nodes t)

-- a term with an image leads to it alone; any other to its arguments, and an equality of arrays to the selects of its sides
-- at their witness
abbrev pub leads : List Node → (ℕ → Option ℕ) → ℕ → List ℕ
leads nodes image t = leads_by nodes t (image t)
