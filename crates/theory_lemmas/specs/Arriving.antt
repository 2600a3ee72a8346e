-- What the code of atoms gives.
use Rattle.std.specs.Prelude.{◌≡◌, ◌++◌, ℕ, List, [], ◌∷◌, Option, Some, None}
use Rattle.std.specs.Global.{Vec}
use Rattle.smt_terms.specs.declared.operator.Operator.{Operator}
use Rattle.smt_terms.specs.declared.node.Op.TheVariants.{Plain}
use Rattle.smt_terms.specs.declared.node.Node.{Node}
use Rattle.smt_terms.specs.Nodes.{node_of}
use Rattle.theory_terms.specs.Shapes.{term_of}
use Rattle.theory_terms.specs.declared.atom.Atom.{Atom}
use Rattle.theory_terms.specs.declared.atom.Landing.{Landing}
use Rattle.theory_terms.specs.Lemmas.{Arrival}

-- where an access has come, and its moves' atoms behind those that there were; nothing where it has no arrival
abbrev pub HasArrived : Option Arrival → List Atom → Option Landing → List Atom → Type 0
HasArrived None old None new = Unit {0}
HasArrived None old (Some l) new = ⊥
HasArrived (Some p) old None new = ⊥
HasArrived (Some p) old (Some l) new = (l ≡ p.landing) × (new ≡ old ++ p.unless)

-- the term of an operator without an index and two arguments
abbrev pub pair_term : List Node → Operator → ℕ → ℕ → Option ℕ
pair_term nodes o a b = term_of nodes (node_of (Plain o) (a ∷ b ∷ []))

-- these atoms, if there are some
abbrev pub AreAtoms : Option (List Atom) → Option (Vec Atom) → Type 0
AreAtoms None None = Unit {0}
AreAtoms None (Some v) = ⊥
AreAtoms (Some atoms) None = ⊥
AreAtoms (Some atoms) (Some v) = v.items ≡ atoms
