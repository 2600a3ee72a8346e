-- How a search of clauses ends: with values that make each of them true, or with a refutation.
use Rattle.std.specs.Prelude.{◌≡◌, ℕ, ◌-◌, ◌<◌, ◌≤◌, Bool, false, List, Option, Ok, Contains, length, slice_index_or}
use Rattle.std.specs.Io.KnownBytes.{Appends}
use Rattle.smt_desk.specs.Faults.{Rose}
use Rattle.cnf_base.specs.Literals.{Literal}
use Rattle.dimacs_front.specs.Cnf.{CnfValue, Satisfies}
use Rattle.dimacs_front.specs.Lrat.{lrat_of}
use Rattle.dimacs_search.specs.declared.outcome.Outcome.{Outcome}
use Rattle.dimacs_search.specs.declared.outcome.Outcome.TheVariants.{Satisfiable, Unsatisfiable}
use Rattle.dimacs_search.specs.declared.outcome.Failure.{Failure}
use Rattle.dimacs_search.specs.declared.outcome.Failure.TheVariants.{Unwritten, NoMemory}

-- the literals of a clause are of the first variables
abbrev pub AreOf : ℕ → List Literal → Type 0
AreOf variables c = (l : Literal) → Contains c l → (0 < l.variable) × (l.variable ≤ variables)

-- each literal is of a variable of these clauses
abbrev pub HaveTheirVariables : CnfValue → Type 0
HaveTheirVariables cnf = (c : List Literal) → Contains cnf.clauses c → AreOf cnf.variables c

-- the assignment of a row of values, that of variable 1 first
abbrev pub assignment : List Bool → ℕ → Bool
assignment values x = slice_index_or values (x - 1) false

-- each variable has a value, and under these values each clause has a literal that is true
pub record IsModel (cnf : CnfValue) (values : List Bool) : Type 0 where
  pub count : length values ≡ cnf.variables
  pub satisfies : Satisfies (assignment values) cnf

-- a refutation of the clauses was written
abbrev pub IsRefuted : CnfValue → Option (List ℕ) → Option (List ℕ) → Type 0
IsRefuted cnf old new = (text : List ℕ) × Appends old new text × (lrat_of cnf text ≡ Ok tt)

-- the values are a model, or a refutation was written
abbrev pub IsEnd : CnfValue → Option (List ℕ) → Option (List ℕ) → Outcome → Type 0
IsEnd cnf old new (Satisfiable values) = IsModel cnf values.items
IsEnd cnf old new Unsatisfiable = IsRefuted cnf old new

-- some bytes were written
abbrev pub AddsTo : Option (List ℕ) → Option (List ℕ) → Type 0
AddsTo old new = (bytes : List ℕ) × Appends old new bytes

-- a write that failed is told only where the count rose
abbrev pub HasCause : ℕ → ℕ → Failure → Type 0
HasCause old new Unwritten = Rose old new
HasCause old new NoMemory = Unit {0}
