-- Clauses one behind the other, and the literals of one that is not ended.
use Rattle.std.specs.Prelude.{◌≡◌, ℕ, zero, suc, ◌≤◌, List, [], ◌∷◌, ◌++◌, take, drop, slice_index}
use Rattle.cnf_base.specs.Literals.{Literal}

pub record RowsValue : Type 0 where
  pub clauses : List (List Literal)
  pub begun : List Literal

abbrev pub no_rows : RowsValue
no_rows = record { clauses = []; begun = [] }

-- one literal more
abbrev pub with_literal : RowsValue → Literal → RowsValue
with_literal r l = record { clauses = r.clauses; begun = r.begun ++ l ∷ [] }

-- the clause is ended
abbrev pub ended : RowsValue → RowsValue
ended r = record { clauses = r.clauses ++ r.begun ∷ []; begun = [] }

-- a clause more
abbrev pub with_row : RowsValue → List Literal → RowsValue
with_row r clause = record { clauses = r.clauses ++ clause ∷ []; begun = r.begun }

-- ---- as a table

-- the rows of a table, from this place on, each up to its end
unfoldable pub rows_from : {A : Type 0} → ℕ → List ℕ → List A → List (List A)
rows_from at [] table = []
rows_from at (end ∷ ends) table = drop at (take end table) ∷ rows_from end ends table

-- where the last row ends
unfoldable pub last_end : ℕ → List ℕ → ℕ
last_end at [] = at
last_end at (end ∷ ends) = last_end end ends

-- ends do not fall, and none is above this one
abbrev pub AreEnds : ℕ → ℕ → List ℕ → Type 0
AreEnds at size [] = at ≤ size
AreEnds at size (end ∷ ends) = (at ≤ end) × AreEnds end size ends

-- where the row of this place begins
abbrev pub IsStart : ℕ → List ℕ → ℕ → ℕ → Type 0
IsStart at ends zero start = start ≡ at
IsStart at ends (suc place) start = start ≡ slice_index ends place
