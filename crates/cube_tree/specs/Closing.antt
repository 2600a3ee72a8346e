-- What closes a cube: a clause by which some literal of the cube, or something that the check assumes, is false.
use Rattle.std.specs.Prelude.{◌≡◌, ◌⊎◌, ℕ, List, Some, All, Contains, slice_get}
use Rattle.cnf_base.specs.Literals.{Literal, negated}
use Rattle.cnf_base.specs.declared.clause.ClauseId.{ClauseId}
use Rattle.hint_chain.specs.Chains.{Lookup}
use Rattle.cube_tree.specs.Cubes.{cube_of}

-- each literal is the opposite of one of the cube, or of one that the check assumes
abbrev pub IsClosing : List Literal → List Literal → List Literal → Type 0
IsClosing assumed cube clause = All (λ l. Contains cube (negated l) ⊎ Contains assumed (negated l)) clause

-- the first clause of a position
abbrev pub first_of : ℕ → ClauseId
first_of at = record { pos = at; part = 0 }

-- the first clause of the position closes the cube
pub record Closes (look : Lookup) (assumed cube : List Literal) (at : ℕ) : Type 0 where
  pub clause : List Literal
  pub found : look (first_of at) ≡ Some clause
  pub closing : IsClosing assumed cube clause

-- each cube over the variables is closed at the position of its number
abbrev pub AreClosing : Lookup → List Literal → List ℕ → List ℕ → Type 0
AreClosing look assumed variables places = (n p : ℕ) → slice_get places n ≡ Some p → Closes look assumed (cube_of variables n) p

-- there is a clause at each of these positions
abbrev pub HaveClauses : Lookup → List ℕ → Type 0
HaveClauses look places = (n p : ℕ) → slice_get places n ≡ Some p → (c : List Literal) × (look (first_of p) ≡ Some c)
