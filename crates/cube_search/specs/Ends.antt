-- How a search ends.
use Rattle.std.specs.Prelude.{◌≡◌, ◌≤◌, ◌<◌, ◌-◌, ℕ, suc, Bool, true, List, length, take, Some, Contains}
use Rattle.cnf_base.specs.Literals.{Literal}
use Rattle.cnf_base.specs.Clauses.{lit_true, clause_true}
use Rattle.cnf_base.specs.declared.clause.ClauseId.{ClauseId}
use Rattle.proof_log.specs.declared.board.Sync.{Sync}
use Rattle.proof_log.specs.declared.diary.Diary.{Diary}
use Rattle.proof_log.specs.declared.diary.DiaryLine.{DiaryLine}
use Rattle.proof_log.specs.declared.diary.DiaryLine.TheVariants.{Put}
use Rattle.proof_log.specs.Logs.{clause_at, state_of}
use Rattle.proof_log.specs.Diaries.{Subject, IsSpent}
use Rattle.cdcl_learn.specs.Puts.{IsAgainst}
use Rattle.cube_search.specs.declared.ends.End.{End}
use Rattle.cube_search.specs.declared.ends.End.TheVariants.{Closed, Model, Spent, Stopped}
use Rattle.cube_search.specs.Keeping.{AreImported, AreEqualitiesFirst}

-- every clause of these positions is true, and each given literal
pub record IsModel (rows : List (List (List Literal))) (positions : List ℕ) (given : List Literal) (v : ℕ → Bool) : Type 0 where
  pub clauses : (id : ClauseId) (c : List Literal) → Contains positions id.pos → clause_at rows id ≡ Some c → clause_true v c ≡ true
  pub literals : (l : Literal) → Contains given l → lit_true v l ≡ true

-- clause 0 of the position has only opposites of given literals
abbrev pub IsClosing : List (List (List Literal)) → List Literal → ℕ → Type 0
IsClosing rows given p = (c : List Literal) × (clause_at rows (record { pos = p; part = 0 }) ≡ Some c) × IsAgainst given c

-- a put of these lines, which is not the last line
abbrev pub IsEarlierPut : List DiaryLine → ℕ → Type 0
IsEarlierPut lines p = Contains (take (length lines - 1) lines) (Put p)

-- The diary has spent the budget, its puts are from its start on, and from there each chain that is known has a line. It starts
-- where the search's own chains begin or later. Of each of its puts but the last the board told. Each equality among the search's own
-- steps was taken before what is put behind it.
pub record IsSpentDiary (g : Subject) (knows : ℕ → Type 0) (told : Sync) (budget : ℕ) (d : Diary) : Type 0 where
  pub spent : IsSpent g budget d.lines
  pub imported : AreImported d.lines g.log knows d.start
  pub start : g.from ≤ d.start
  pub within : d.start ≤ suc (length g.log)
  pub later : (p : ℕ) → Contains d.lines (Put p) → d.start ≤ p
  pub looked : (p : ℕ) → IsEarlierPut d.lines p → p < told.upto
  pub first : AreEqualitiesFirst g.log g.from d.lines

-- What an end says of a board after it, of which the search holds these positions from the opening, and of the value of each variable
-- under the search's true literals. That of a diary it says where the condition holds. A search is stopped only where the board told
-- that a model was found, which it has seen.
abbrev pub IsEnd : Type 0 → Subject → (ℕ → Type 0) → Bool → Sync → List ℕ → (ℕ → Bool) → ℕ → ℕ → End → Type 0
IsEnd condition g knows found told positions v cube budget (Closed p) = IsClosing (state_of g.nodes g.log).clauses g.given p
IsEnd condition g knows found told positions v cube budget Model = IsModel (state_of g.nodes g.log).clauses positions g.given v
IsEnd condition g knows found told positions v cube budget (Spent d) = (d.cube ≡ cube) × (condition → IsSpentDiary g knows told budget d)
IsEnd condition g knows found told positions v cube budget Stopped = (found ≡ true) × (told.found ≡ true)

-- the search has found a model
abbrev pub IsModelEnd : End → Type 0
IsModelEnd (Closed p) = ⊥
IsModelEnd Model = Unit {0}
IsModelEnd (Spent d) = ⊥
IsModelEnd Stopped = ⊥
