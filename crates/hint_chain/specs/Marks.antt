-- Marks on literals, by their codes: a literal is marked where its stamp is the round's.
use Rattle.std.specs.Prelude.{◌≡◌, ℕ, ◌+◌, ◌*◌, ◌<◌, ◌↔◌, List, Some, Contains, length, slice_get}
use Rattle.std.specs.List.{AllByRecursion}
use Rattle.cnf_base.specs.Literals.{Literal, code_of}

-- a stamp for each literal, and the number of the round
pub record Stamps : Type 0 where
  pub stamps : List ℕ
  pub round : ℕ

abbrev pub IsMarked : Stamps → Literal → Type 0
IsMarked m l = slice_get m.stamps (code_of l) ≡ Some m.round

-- the marked literals are those of the list
abbrev pub Agrees : Stamps → List Literal → Type 0
Agrees m trues = (l : Literal) → IsMarked m l ↔ Contains trues l

-- there is a stamp for the literal, and one for its opposite
abbrev pub HasPlace : Stamps → Literal → Type 0
HasPlace m l = 2 * l.variable + 1 < length m.stamps

-- there is one for each literal of the clause
abbrev pub HasRoom : Stamps → List Literal → Type 0
HasRoom m = AllByRecursion (HasPlace m)
