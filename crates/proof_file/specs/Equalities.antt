-- A search holds an equality before it puts what rests on it, and puts steps of its own alone.
use Rattle.std.specs.Prelude.{◌≡◌, ℕ, ◌≤◌, ◌<◌, List, [], ◌∷◌, ◌++◌, Contains, Option, Some, None}
use Rattle.proof_log.specs.declared.entry.Entry.{Entry}
use Rattle.proof_log.specs.declared.entry.Entry.TheVariants as step
use Rattle.proof_log.specs.declared.diary.DiaryLine.{DiaryLine}
use Rattle.proof_log.specs.declared.diary.DiaryLine.TheVariants.{Take, Put, Drop}
use Rattle.proof_log.specs.Logs.{entry_at}
use Rattle.proof_text.specs.declared.record.Record.{Record}
use Rattle.proof_text.specs.declared.record.Record.TheVariants.{Sat, Unsat, Unknown}

-- each equality that stands from the start on and before this position was taken in these lines
abbrev pub AreEqualitiesTaken : List Entry → ℕ → ℕ → List DiaryLine → Type 0
AreEqualitiesTaken log start at lines = (q t u : ℕ) → start ≤ q → q < at → entry_at log q ≡ Some (step.Equal t u) → Contains lines (Take q)

-- so it is at each put, of those behind these lines too, and what is put stands from the start on
abbrev pub AreTakenFirst : List Entry → ℕ → List DiaryLine → List DiaryLine → Type 0
AreTakenFirst log start before [] = Unit {0}
AreTakenFirst log start before (Take p ∷ lines) = AreTakenFirst log start (before ++ Take p ∷ []) lines
AreTakenFirst log start before (Put p ∷ lines) = (start ≤ p) × AreEqualitiesTaken log start p before × AreTakenFirst log start (before ++ Put p ∷ []) lines
AreTakenFirst log start before (Drop p ∷ lines) = AreTakenFirst log start (before ++ Drop p ∷ []) lines

-- Of the record of a check whose own steps stand from this position on: where it is a diary, it starts there or behind, and equalities are
-- taken before what is put behind them.
abbrev pub HasTakenFirst : ℕ → List Entry → Option Record → Type 0
HasTakenFirst from log None = Unit {0}
HasTakenFirst from log (Some (Sat values)) = Unit {0}
HasTakenFirst from log (Some (Unsat p)) = Unit {0}
HasTakenFirst from log (Some (Unknown d)) = (from ≤ d.start) × AreTakenFirst log d.start [] d.lines
