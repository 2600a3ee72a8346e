-- What the reader of a diary keeps, and when it has read the lines of one.
use Rattle.std.specs.Prelude.{◌≡◌, ℕ, ◌↔◌, Bool, true, false, List, MatchBool}
use Rattle.cnf_base.specs.declared.clause.ClauseId.{ClauseId}
use Rattle.proof_log.specs.declared.diary.DiaryLine.{DiaryLine}
use Rattle.proof_log.specs.declared.diary.DiaryLine.TheVariants.{Take, Put, Drop}
use Rattle.proof_log.specs.Logs.{entry_at, state_of}
use Rattle.faded_log.specs.Faded.{FadedValue}
use Rattle.proof_log.specs.Diaries.{Subject, DiaryState, look_of, is_chain, IsLine, line_after, AreLines, lines_after, EndsInPut}
use Rattle.proof_text.specs.Deletions.{blank_without}
use Rattle.diary_checker.specs.Tables.{Stamps, IsSetOf, bit_in}
use Rattle.diary_checker.specs.Uses.{AreFiled}
use Rattle.diary_checker.specs.Starts.{IsBroughtTo}

-- the given literals, a bit for each position, the counts of chains held, of puts and of drops that are left, whether the
-- last line was a put, the clauses by one of their literals, the position of the start, and which positions were brought since
pub record ReaderValue : Type 0 where
  pub given : Stamps
  pub held : List Bool
  pub chains : ℕ
  pub puts : ℕ
  pub drops : ℕ
  pub ended : Bool
  pub filed : List (List ClauseId)
  pub from : ℕ
  pub brought : List ℕ

abbrev pub state_in : ReaderValue → DiaryState
state_in r = record { held = bit_in r.held; chains = r.chains; puts = r.puts; drops = r.drops }

-- the log that is at hand is the one that the diary is about
pub record IsAbout (g : Subject) (log : FadedValue) : Type 0 where
  pub entries : log.entries ≡ g.log
  pub clauses : log.clauses ≡ (state_of g.nodes g.log).clauses

-- the given literals are the diary's, and each held clause is filed under one of its literals
pub record IsSetUp (g : Subject) (r : ReaderValue) : Type 0 where
  pub given : IsSetOf r.given g.given
  pub filed : AreFiled (look_of g) (bit_in r.held) r.filed

-- where these places were deleted before, the reader took these lines, which stand, one after the other
pub record HasRead (deleted : ℕ → Bool) (g : Subject) (lines : List DiaryLine) (r : ReaderValue) : Type 0 where
  pub set_up : IsSetUp g r
  pub stand : AreLines g (blank_without deleted g) lines
  pub state : state_in r ≡ lines_after g (blank_without deleted g) lines
  pub ended : (r.ended ≡ true) ↔ EndsInPut lines
  pub from : r.from ≡ g.from
  pub back : IsBroughtTo (blank_without deleted g).held (bit_in r.held) r.brought

-- ---- one line

-- the start stays the same, and is found again as before, whichever positions it has that are no chain's
pub record KeepsStart (g : Subject) (old new : ReaderValue) : Type 0 where
  pub from : new.from ≡ old.from
  pub back : (start : ℕ → Bool) → ((p : ℕ) → is_chain (entry_at g.log p) ≡ true → start p ≡ false) →
      IsBroughtTo start (bit_in old.held) old.brought → IsBroughtTo start (bit_in new.held) new.brought

abbrev pub is_put : DiaryLine → Bool
is_put (Take p) = false
is_put (Put p) = true
is_put (Drop p) = false

pub record IsTaken (g : Subject) (old new : ReaderValue) (l : DiaryLine) : Type 0 where
  pub valid : IsLine g (state_in old) l
  pub set_up : IsSetUp g new
  pub state : state_in new ≡ line_after g (state_in old) l
  pub ended : new.ended ≡ is_put l
  pub start : KeepsStart g old new

pub record IsRefused (g : Subject) (old new : ReaderValue) (l : DiaryLine) : Type 0 where
  pub invalid : ¬ (IsLine g (state_in old) l)
  pub same : new ≡ old

-- the line was taken, or refused
abbrev pub IsDecided : Subject → ReaderValue → ReaderValue → DiaryLine → Bool → Type 0
IsDecided g old new l taken = MatchBool taken (IsTaken g old new l) (IsRefused g old new l)

-- memory was wanting: the same is held, and its clauses are filed
pub record IsUndecided (g : Subject) (old new : ReaderValue) : Type 0 where
  pub set_up : IsSetUp g new
  pub state : state_in new ≡ state_in old
  pub ended : new.ended ≡ old.ended
  pub start : KeepsStart g old new
