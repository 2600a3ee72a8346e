-- Tables by literal and by position.
use Rattle.std.specs.Prelude.{◌≡◌, ◌≢◌, ℕ, ◌-◌, ◌<◌, ◌≤◌, ◌↔◌, Bool, false, List, [], Option, Some, None, Contains, length, get_or, slice_index_or}
use Rattle.cnf_base.specs.Literals.{Literal, code_of}
use Rattle.cnf_base.specs.declared.clause.ClauseId.{ClauseId}

-- stamps by row, and a clock
pub record Stamps : Type 0 where
  pub stamps : List ℕ
  pub clock : ℕ

-- the number of a literal: how far its stamp is past the clock
abbrev pub number_of : Stamps → Literal → ℕ
number_of t l = slice_index_or t.stamps (code_of l) 0 - t.clock

-- the literals whose numbers are not 0 are those of the list
abbrev pub IsSetOf : Stamps → List Literal → Type 0
IsSetOf t literals = (l : Literal) → (0 < number_of t l) ↔ Contains literals l

-- no literal stands at two places of the list
abbrev pub AreDifferent : List Literal → Type 0
AreDifferent ls = (i j : ℕ) (d : Literal) → i < j → j < length ls → get_or ls i d ≢ get_or ls j d

-- the list has the literals of the clause and no others, each once, and the table is the set of them
pub record AreEach (t : Stamps) (each clause : List Literal) : Type 0 where
  pub table : IsSetOf t each
  pub same : (l : Literal) → Contains each l ↔ Contains clause l
  pub once : AreDifferent each

-- whether a position's bit is set
abbrev pub bit_in : List Bool → ℕ → Bool
bit_in bits at = slice_index_or bits at false

-- the row of the clauses under this literal; row 0 is no literal's, and has the empty clauses
abbrev pub row_of : Option Literal → ℕ
row_of None = 0
row_of (Some l) = code_of l

-- the clauses that are filed under a literal, or under none
abbrev pub filed_under : List (List ClauseId) → Option Literal → List ClauseId
filed_under lists key = slice_index_or lists (row_of key) []

-- a literal of the clause, or none where it has none
abbrev pub IsKey : List Literal → Option Literal → Type 0
IsKey clause None = clause ≡ []
IsKey clause (Some l) = Contains clause l

-- a literal of the clause under which no more clauses are filed than under any other of its literals
pub record IsShortest (lists : List (List ClauseId)) (clause : List Literal) (key : Option Literal) : Type 0 where
  pub is_key : IsKey clause key
  pub least : (l : Literal) → Contains clause l → length (filed_under lists key) ≤ length (filed_under lists (Some l))

-- the clause is filed under one of its literals, an empty one under none
abbrev pub IsFiled : List (List ClauseId) → ClauseId → List Literal → Type 0
IsFiled lists id clause = (key : Option Literal) × IsKey clause key × Contains (filed_under lists key) id
