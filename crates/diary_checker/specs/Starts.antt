-- What diaries hold at their start, which is kept from one to the next, and how it is found again behind the lines of one.
use Rattle.std.specs.Prelude.{◌≡◌, ◌≤◌, ◌⊎◌, ◌&&◌, ◌||◌, ℕ, suc, ltb, not, Bool, false, List, Contains, length, take}
use Rattle.cnf_base.specs.declared.clause.ClauseId.{ClauseId}
use Rattle.proof_log.specs.declared.entry.Entry.{Entry}
use Rattle.proof_log.specs.Logs.{clause_at, entry_at}
use Rattle.faded_log.specs.Faded.{FadedValue}
use Rattle.proof_log.specs.Diaries.{is_chain}
use Rattle.proof_text.specs.Deletions.{is_deleted}
use Rattle.diary_checker.specs.Tables.{bit_in}
use Rattle.diary_checker.specs.Uses.{AreFiled}

-- a bit for each position, the clauses by one of their literals, the position of the start, and how many of the deleted places
-- are left out
pub record StartValue : Type 0 where
  pub held : List Bool
  pub filed : List (List ClauseId)
  pub from : ℕ
  pub known : ℕ

-- whether a position is before the start of a diary and neither deleted nor a chain's
abbrev pub is_at_start : (ℕ → Bool) → List Entry → ℕ → ℕ → Bool
is_at_start deleted log from p = ltb p from && not (deleted p || is_chain (entry_at log p))

-- what a diary over a front of this log held at its start, where the first of these places were deleted, with its clauses filed
pub record IsStart (deleted : List ℕ) (log : FadedValue) (s : StartValue) : Type 0 where
  pub within : s.from ≤ suc (length log.entries)
  pub known : s.known ≤ length deleted
  pub held : (p : ℕ) → bit_in s.held p ≡ is_at_start (is_deleted (take s.known deleted)) log.entries s.from p
  pub filed : AreFiled (clause_at log.clauses) (bit_in s.held) s.filed

-- what is held is what was held at the start but for the positions that were brought, of which none was
pub record IsBroughtTo (start held : ℕ → Bool) (brought : List ℕ) : Type 0 where
  pub new : (p : ℕ) → Contains brought p → start p ≡ false
  pub rest : (p : ℕ) → Contains brought p ⊎ (held p ≡ start p)
