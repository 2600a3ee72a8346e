-- The terms that lemmas name.
use Rattle.std.specs.Prelude.{◌≡◌, ℕ, ◌<◌, List, length}
use Rattle.std.specs.List.{AllByRecursion}
use Rattle.smt_terms.specs.declared.sort.Sort.TheVariants as sort
use Rattle.smt_terms.specs.declared.node.Node.{Node}
use Rattle.smt_terms.specs.Terms.{sort_of}
use Rattle.theory_terms.specs.declared.lemma.Move.{Move}
use Rattle.theory_terms.specs.declared.lemma.Move.TheVariants as by
use Rattle.theory_terms.specs.declared.lemma.Start.{Start}
use Rattle.theory_terms.specs.declared.lemma.Start.TheVariants.{Term, Const}
use Rattle.theory_terms.specs.declared.lemma.Access.{Access}
use Rattle.theory_terms.specs.declared.lemma.Lemma.{Lemma}
use Rattle.theory_terms.specs.declared.lemma.Lemma.TheVariants as lemma
use Rattle.theory_terms.specs.declared.atom.Atom.{Atom}
use Rattle.theory_terms.specs.declared.atom.Atom.TheVariants.{Same, Differ, Holds, Fails}

-- a term that an atom says to be true or false is a Bool
abbrev pub NamesTruth : List Node → Atom → Type 0
NamesTruth nodes (Same t u) = Unit {0}
NamesTruth nodes (Differ t u) = Unit {0}
NamesTruth nodes (Holds t) = sort_of nodes t ≡ sort.Bool
NamesTruth nodes (Fails t) = sort_of nodes t ≡ sort.Bool

-- the term that a move names
abbrev pub mover : Move → ℕ
mover (by.Store t) = t
mover (by.Then t) = t
mover (by.Else t) = t
mover (by.Sides t) = t

-- the terms that a start names are held
abbrev pub IsHeldStart : List Node → Start → Type 0
IsHeldStart nodes (Term t) = t < length nodes
IsHeldStart nodes (Const k j) = (k < length nodes) × (j < length nodes)

-- the terms that an access names are held
abbrev pub IsHeldAccess : List Node → Access → Type 0
IsHeldAccess nodes a = IsHeldStart nodes a.start × AllByRecursion (λ m. mover m < length nodes) a.path

-- the terms that a lemma names are held
abbrev pub AreHeld : List Node → Lemma → Type 0
AreHeld nodes (lemma.Congruence t u) = (t < length nodes) × (u < length nodes)
AreHeld nodes (lemma.Arrays a b) = IsHeldAccess nodes a × IsHeldAccess nodes b
AreHeld nodes (lemma.Witness t) = t < length nodes
