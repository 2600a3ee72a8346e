-- Of which variables the clauses of a block are.
use Rattle.std.specs.Prelude.{◌≡◌, ◌⊎◌, ◌<◌, ◌≤◌, ◌+◌, ℕ, List, length, Some, Contains}
use Rattle.std.specs.List.{AllByRecursion}
use Rattle.cnf_base.specs.Literals.{Literal}
use Rattle.cnf_base.specs.Assignments.{AreBelow}
use Rattle.cnf_base.specs.Gates.{gates_clauses}
use Rattle.smt_terms.specs.declared.node.Op.{Op}
use Rattle.bit_blast.specs.Circuits.{built}
use Rattle.bit_blast.specs.Blocks.{Block, circuit_of}

-- the variable stands in one of these rows
abbrev pub IsInRow : List (List Literal) → ℕ → Type 0
IsInRow rows x = (row : List Literal) × (l : Literal) × Contains rows row × Contains row l × (l.variable ≡ x)

-- the variable is that of one of the gates of a block that begins at g
abbrev pub IsGate : ℕ → Block → ℕ → Type 0
IsGate g b x = (g ≤ x) × (x < g + length b.gates)

-- the variable is 1, or stands in a row of an argument, or is that of a gate
abbrev pub IsOfBlock : ℕ → List (List Literal) → Block → ℕ → Type 0
IsOfBlock g rows b x = (x ≡ 1) ⊎ (IsInRow rows x ⊎ IsGate g b x)

-- The bits of a block and its clauses are of such variables, and each clause has that of a gate.
pub record StandsOnArguments (g : ℕ) (rows : List (List Literal)) (b : Block) : Type 0 where
  pub bits : (l : Literal) → Contains b.bits l → IsOfBlock g rows b l.variable
  pub clauses : (c : List Literal) (l : Literal) → Contains (gates_clauses g b.gates) c → Contains c l → IsOfBlock g rows b l.variable
  pub own : (c : List Literal) → Contains (gates_clauses g b.gates) c → (l : Literal) × Contains c l × IsGate g b l.variable

-- so it is for the block of each operator, over rows of variables that there are
abbrev pub BlocksStandOnArguments : Type 0
BlocksStandOnArguments =
    (g : ℕ) (op : Op) (rows : List (List Literal)) (b : Block)
    → 1 < g → AllByRecursion (AreBelow g) rows → built (circuit_of op) g rows ≡ Some b → StandsOnArguments g rows b
