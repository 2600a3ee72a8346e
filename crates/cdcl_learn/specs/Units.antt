-- Clauses of one literal for what is true at level 0.
use Rattle.std.specs.Prelude.{ℕ, ◌≡◌, ◌≢◌, ◌<◌, List, [], ◌∷◌, Some, Contains, length}
use Rattle.cnf_base.specs.Literals.{Literal, negated}
use Rattle.cnf_base.specs.declared.clause.ClauseId.{ClauseId}
use Rattle.hint_chain.specs.Chains.{Lookup, IsChain}
use Rattle.cdcl_core.specs.Levels.{Row}
use Rattle.cdcl_learn.specs.Rows.{literal_at}
use Rattle.cdcl_learn.specs.Puts.{StandsIn}

-- the literal stands at a place before the end
abbrev pub StandsBefore : List Row → ℕ → Literal → Type 0
StandsBefore rows end l = (k : ℕ) × ((k < end) × (literal_at rows k ≡ l))

-- each of these names is of a clause of one literal, which stands before the end, and each literal of the clause but this one
-- is false by one of them
pub record AreUnits (look : Lookup) (rows : List Row) (end : ℕ) (c : List Literal) (literal : Literal) (units : List ClauseId) : Type 0 where
  pub each : (id : ClauseId) → Contains units id → (m : Literal) × ((look id ≡ Some (m ∷ [])) × StandsBefore rows end m)
  pub all : (m : Literal) → Contains c m → m ≢ literal → (id : ClauseId) × (Contains units id × (look id ≡ Some (negated m ∷ [])))

-- a clause of the literal at this place alone, with a chain of hints, one of which has the literal
pub record IsUnitAt (look : Lookup) (rows : List Row) (place : ℕ) (clause : List Literal) (hints : List ClauseId) : Type 0 where
  pub within : place < length rows
  pub one : clause ≡ literal_at rows place ∷ []
  pub chain : IsChain look clause hints
  pub stands : (l : Literal) → Contains clause l → StandsIn look hints l
