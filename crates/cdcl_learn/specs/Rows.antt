-- A trail by places, and what is true of the trails of a search.
use Rattle.std.specs.Prelude.{ℕ, ◌≡◌, ◌≢◌, ◌+◌, ◌<◌, ◌≤◌, List, Option, Some, None, Contains, length, slice_index_or}
use Rattle.cnf_base.specs.Literals.{Literal, negated}
use Rattle.cnf_base.specs.declared.clause.ClauseId.{ClauseId}
use Rattle.hint_chain.specs.Chains.{Lookup}
use Rattle.cdcl_core.specs.Levels.{Row}
use Rattle.cdcl_core.specs.State.{no_row}

abbrev pub row_at : List Row → ℕ → Row
row_at rows i = slice_index_or rows i no_row

-- the literal at a place, its decision level, and the clause that forced it
abbrev pub literal_at : List Row → ℕ → Literal
literal_at rows i = (row_at rows i).0

abbrev pub level_at : List Row → ℕ → ℕ
level_at rows i = (row_at rows i).1

abbrev pub reason_at : List Row → ℕ → Option ClauseId
reason_at rows i = (row_at rows i).2

-- the opposite of the literal stands at a place before the end
abbrev pub IsFalseBefore : List Row → ℕ → Literal → Type 0
IsFalseBefore rows end l = (k : ℕ) × ((k < end) × (literal_at rows k ≡ negated l))

-- the literals before the last one are a front of these
abbrev pub IsFrontOf : List Row → List Row → Type 0
IsFrontOf base rows = (i : ℕ) → i + 1 < length rows → (i < length base) × (literal_at rows i ≡ literal_at base i)

-- the clause of this name forced a literal of the trail
abbrev pub IsReasonOf : List Row → ClauseId → Type 0
IsReasonOf rows id = (i : ℕ) × ((i < length rows) × (reason_at rows i ≡ Some id))

-- no literal is decided at level 0
abbrev pub AreRaised : List Row → Type 0
AreRaised rows = (i : ℕ) → i < length rows → reason_at rows i ≡ None → 0 < level_at rows i

-- a decided literal is the first of its level
abbrev pub AreDecidedFirst : List Row → Type 0
AreDecidedFirst rows = (i k : ℕ) → i < length rows → k < i → reason_at rows i ≡ None → level_at rows k < level_at rows i

-- no literal stands twice, none beside its opposite, and each that has a reason is forced by it: the clause has the
-- literal, and its other literals were false before
pub record IsHistory (look : Lookup) (rows : List Row) : Type 0 where
  pub once : (i k : ℕ) → i < length rows → k < length rows → literal_at rows i ≡ literal_at rows k → i ≡ k
  pub apart : (i k : ℕ) → i < length rows → k < length rows → literal_at rows i ≢ negated (literal_at rows k)
  pub forced : (i : ℕ) (id : ClauseId) → i < length rows → reason_at rows i ≡ Some id →
      (c : List Literal) × ((look id ≡ Some c) × (Contains c (literal_at rows i) × ((m : Literal) → Contains c m → m ≢ literal_at rows i → IsFalseBefore rows i m)))

-- the clause of this name is false
abbrev pub IsRefutedIn : Lookup → List Row → ClauseId → Type 0
IsRefutedIn look rows id = (c : List Literal) × ((look id ≡ Some c) × ((m : Literal) → Contains c m → IsFalseBefore rows (length rows) m))

-- levels rise along the trail, up to the present one
pub record AreRising (rows : List Row) (level : ℕ) : Type 0 where
  pub rise : (i k : ℕ) → i ≤ k → k < length rows → level_at rows i ≤ level_at rows k
  pub top : (i : ℕ) → i < length rows → level_at rows i ≤ level
