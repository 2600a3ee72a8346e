-- Variables that are to be decided one after the other, and how far they have values.
use Rattle.std.specs.Prelude.{◌≡◌, ◌≤◌, ◌<◌, ℕ, List, length, slice_index, slice_index_or}
use Rattle.cnf_base.specs.Literals.{Literal}
use Rattle.cdcl_core.specs.Levels.{Row, IsTrueBy}
use Rattle.cdcl_loop.specs.declared.agenda.Agenda.{Agenda}

-- the variable has a value at the end of level j
abbrev pub IsValuedBy : List Row → ℕ → ℕ → Type 0
IsValuedBy rows j x = (l : Literal) × (l.variable ≡ x) × IsTrueBy rows j l

-- the place of the list that was reached at the end of level j: the present one from the present level on
abbrev pub place_at : Agenda → ℕ → ℕ
place_at a j = slice_index_or a.marks.items j a.cursor

-- each level has its place, and at its end each variable before that has a value
pub record IsScanned (a : Agenda) (rows : List Row) (level : ℕ) : Type 0 where
  pub levels : length a.marks.items ≡ level
  pub within : (j : ℕ) → place_at a j ≤ length a.list
  pub valued : (j k : ℕ) → k < place_at a j → IsValuedBy rows j (slice_index a.list k)
