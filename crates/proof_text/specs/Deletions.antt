-- What the deletions of a proof file take away, as those of DRAT do (N. Wetzler, M. Heule and W. Hunt, "DRAT-trim: Efficient
-- Checking and Trimming Using Expressive Clausal Proofs", 2014). They stand beside the log: a deleted place keeps its number and
-- its step, but no later line names it, and no search holds its clauses.
use Rattle.std.specs.Prelude.{◌≡◌, ℕ, suc, ltb, Bool, true, false, not, ◌==◌, ◌&&◌, ◌||◌, List, [], ◌∷◌, ◌++◌, Option, Some}
use Rattle.std.specs.List.{list_any, AllByRecursion}
use Rattle.cnf_base.specs.declared.clause.ClauseId.{ClauseId}
use Rattle.proof_log.specs.declared.entry.Entry.{Entry}
use Rattle.proof_log.specs.declared.entry.Entry.TheVariants as step
use Rattle.proof_log.specs.declared.diary.DiaryLine.{DiaryLine}
use Rattle.proof_log.specs.declared.diary.DiaryLine.TheVariants.{Take, Put, Drop}
use Rattle.proof_log.specs.Logs.{entry_at}
use Rattle.proof_log.specs.Diaries.{Subject, DiaryState, AreLines, EndsInPut, is_chain, lines_after}

-- ---- what is deleted

-- whether a place is among these
abbrev pub is_deleted : List ℕ → ℕ → Bool
is_deleted deleted p = list_any (λ q. q == p) deleted

-- only lemmas and chains can be deleted: no later step takes its bits, its variable or its term from them
abbrev pub is_deletable : Option Entry → Bool
is_deletable (Some (step.Lemma l)) = true
is_deletable (Some (step.Chain c hints)) = true
is_deletable _ = false

-- each is the place of a lemma or a chain that is not deleted, and none stands there twice
abbrev pub AreDeletable : List Entry → List ℕ → List ℕ → Type 0
AreDeletable log deleted [] = Unit {0}
AreDeletable log deleted (p ∷ ps) = (is_deletable (entry_at log p) ≡ true) × (is_deleted deleted p ≡ false) × AreDeletable log (deleted ++ p ∷ []) ps

-- ---- what names it

-- a hint of the chain names a deleted place
abbrev pub cites : List ℕ → Entry → Bool
cites deleted (step.Chain c hints) = list_any (λ (h : ClauseId). is_deleted deleted h.pos) hints
cites deleted _ = false

-- the place that a line of a diary names
abbrev pub place_of : DiaryLine → ℕ
place_of (Take p) = p
place_of (Put p) = p
place_of (Drop p) = p

-- ---- diaries

-- at the start all positions are held before the diary's own that are neither deleted nor a chain's
abbrev pub blank_without : (ℕ → Bool) → Subject → DiaryState
blank_without deleted g = record { held = λ p. ltb p g.from && not (deleted p || is_chain (entry_at g.log p)); chains = 0; puts = 0; drops = 0 }

-- from what is held at the start, the lines are a diary that has spent the budget
pub record IsSpentFrom (s : DiaryState) (g : Subject) (budget : ℕ) (lines : List DiaryLine) : Type 0 where
  pub stand : AreLines g s lines
  pub puts : (lines_after g s lines).puts ≡ suc budget
  pub last : EndsInPut lines

-- The lines are a diary that has spent the budget, where these places were deleted before it: they are not held at its start,
-- and no line names one.
pub record IsSpentWithout (deleted : List ℕ) (g : Subject) (budget : ℕ) (lines : List DiaryLine) : Type 0 where
  pub spent : IsSpentFrom (blank_without (is_deleted deleted) g) g budget lines
  pub left : AllByRecursion (λ l. is_deleted deleted (place_of l) ≡ false) lines
