-- What contracts see of a checker, and of the lines that it is given.
use Rattle.std.specs.Prelude.{◌≡◌, ◌<◌, ◌==◌, ℕ, zero, suc, Bool, true, false, List, [], ◌∷◌, ◌++◌, ◌+◌, drop, length, map, slice_get, Option, Some, None, Result, Ok, Err}
use Rattle.std.specs.List.{AllByRecursion}
use Rattle.smt_terms.specs.declared.sort.Signature.{Signature}
use Rattle.smt_values.specs.declared.value.Value.{Value}
use Rattle.cnf_base.specs.Literals.{Literal, negated, code_of}
use Rattle.smt_terms.specs.Bits.{TermBits, bits_in}
use Rattle.smt_terms.specs.Terms.{TermsValue}
use Rattle.scope_selectors.specs.declared.live.Live.{Live}
use Rattle.script_state.specs.declared.answer.Asked.{Asked}
use Rattle.script_state.specs.declared.answer.Verdict.{Verdict}
use Rattle.script_state.specs.Readings.{Reading}
use Rattle.script_state.specs.States.{StateValue, concluded}
use Rattle.proof_log.specs.Logs.{state_of}
use Rattle.proof_log.specs.Faults.{IsValid, terms_after}
use Rattle.proof_log.specs.Stored.{selector_in}
use Rattle.faded_log.specs.Faded.{FadedValue, IsHeld}
use Rattle.accepted_proof.specs.Turns.{with_step}
use Rattle.smt_build.specs.declared.symbols.LiveName.{LiveName}
use Rattle.proof_log.specs.declared.entry.Entry.{Entry}
use Rattle.proof_log.specs.declared.entry.Entry.TheVariants as step
use Rattle.proof_text.specs.declared.list.WrittenLiteral.{WrittenLiteral}
use Rattle.proof_text.specs.declared.list.WrittenHint.{WrittenHint}
use Rattle.proof_text.specs.Entries.{written_literal, written_hint}
use Rattle.proof_text.specs.declared.line.Format.{Format}
use Rattle.proof_text.specs.declared.line.Line.{Line}
use Rattle.proof_text.specs.declared.line.Line.TheVariants as line
use Rattle.proof_text.specs.declared.reader.LineFault.{LineFault}
use Rattle.proof_text.specs.Lines.{IsLine}
use Rattle.accepted_proof.specs.declared.refusal.Refusal.{Refusal}
use Rattle.accepted_proof.specs.declared.refusal.RuleName.TheVariants as rule
use Rattle.proof_text.specs.declared.record.Record.TheVariants as shown
use Rattle.accepted_proof.specs.Judged as judged
use Rattle.accepted_proof.specs.Judged.{Owed, Judging, judging_from, refused, noted, closed, Decides, Notes, subject_at}
use Rattle.accepted_proof.specs.Models.{IsOfSignature}
use Rattle.accepted_proof.specs.Searching as searching
use Rattle.accepted_proof.specs.Searching.{AreLimits, IsSearch, given_literals, subject_of}
use Rattle.check_cubes.specs.Searches.{only}
use Rattle.diary_checker.specs.Readers.{HasRead}
use Rattle.proof_log.specs.declared.diary.DiaryLine.{DiaryLine}
use Rattle.proof_log.specs.Diaries.{lines_after}
use Rattle.proof_log.specs.Diaries as diaries
use Rattle.proof_text.specs.Deletions.{IsSpentWithout, blank_without, is_deleted, place_of}
use Rattle.proof_checker.specs.declared.due.Noting.{Noting}
use Rattle.proof_checker.specs.declared.due.Due.{Due}
use Rattle.proof_checker.specs.declared.due.Due.TheVariants.{Nothing, Steps, Values, Noted, Over}

-- what a chunk says, as `ReadsAs` has it
abbrev pub Says : Type 0
Says = Reading

-- what is judged, and the verdicts of the records so far
pub record CheckerValue : Type 0 where
  pub judging : Judging
  pub verdicts : List Verdict

-- the line, if it is one
abbrev pub line_in : Result Line LineFault → Option Line
line_in (Ok l) = Some l
line_in (Err f) = None

-- a line that was read has numbers in range
abbrev pub IsRead : Result Line LineFault → Type 0
IsRead (Ok l) = IsLine l
IsRead (Err f) = Unit {0}

-- the values of these names are owed
abbrev pub values_owed : List LiveName → List (ℕ × Value) → Owed
values_owed [] values = judged.Steps
values_owed (next ∷ left) values = judged.Values next left values

-- what is owed, where these names are live and these values are there
abbrev pub owed_of : Due → List LiveName → List (ℕ × Value) → Owed
owed_of Nothing live values = judged.Nothing
owed_of Steps live values = judged.Steps
owed_of Values live values = values_owed (drop (length values) live) values
owed_of (Noted n) live values = judged.Noted n.cube n.start n.left n.lines
owed_of (Over r) live values = judged.Over r

-- what a line is answered
abbrev pub answer_by : Owed → Result (Unit {0}) Refusal
answer_by judged.Nothing = Ok tt
answer_by judged.Steps = Ok tt
answer_by (judged.Values next left values) = Ok tt
answer_by (judged.Noted cube start left lines) = Ok tt
answer_by (judged.Over r) = Err r

-- nothing is judged yet
abbrev pub no_records : Format → searching.Limits → CheckerValue
no_records format limits = record { judging = judging_from format limits; verdicts = [] }

-- it is judged otherwise, with the same verdicts
abbrev pub judged_so : CheckerValue → Judging → CheckerValue
judged_so c j = record { judging = j; verdicts = c.verdicts }

-- the verdicts, and that of a record which ended the check, since nothing is owed then
abbrev pub and_shown : List Verdict → Owed → Option Verdict → List Verdict
and_shown told judged.Nothing (Some v) = told ++ v ∷ []
and_shown told judged.Nothing None = told
and_shown told judged.Steps v = told
and_shown told (judged.Values next left values) v = told
and_shown told (judged.Noted cube start left lines) v = told
and_shown told (judged.Over r) v = told

-- it is judged as may be, and a record that ends the check adds its verdict
pub record GoesTo (To : Judging → Type 0) (old new : CheckerValue) : Type 0 where
  pub judged : To new.judging
  pub verdicts : new.verdicts ≡ and_shown old.verdicts new.judging.owed new.judging.state.standing

-- how it is judged at the end of the text
abbrev pub at_end : CheckerValue → Option Refusal → CheckerValue
at_end c None = c
at_end c (Some r) = record { judging = record { format = c.judging.format; limits = c.judging.limits; state = c.judging.state; log = c.judging.log; deleted = c.judging.deleted; owed = judged.Over r; line = c.judging.line }; verdicts = c.verdicts }

-- the step is the chain that is written so
abbrev pub IsChainOf : List WrittenLiteral → List WrittenHint → Entry → Type 0
IsChainOf literals hints (step.Chain c names) = (map written_literal c ≡ literals) × (map written_hint names ≡ hints)
IsChainOf literals hints _ = ⊥

-- the hints that a line names
abbrev pub hints_in : Line → List WrittenHint
hints_in (line.Chain clause hints) = hints
hints_in _ = []

-- the step was added
pub record IsTaken (old : StateValue) (log : FadedValue) (e : Entry) (new : StateValue) (longer : FadedValue) : Type 0 where
  pub state : new ≡ with_step old e
  pub entries : longer.entries ≡ log.entries ++ e ∷ []
  pub held : IsHeld new.terms.nodes longer

abbrev pub is_code : Option Literal → ℕ → Bool
is_code None q = false
is_code (Some l) q = code_of (negated l) == q

-- the code is that of the negated selector of the assertion
abbrev pub is_against : List (Option Literal) → Live → ℕ → Bool
is_against selectors a q = is_code (selector_in selectors a.assertion) q

-- the code is that of the negated bit of the assumption
abbrev pub is_against_bit : List TermBits → Asked → ℕ → Bool
is_against_bit bits a q = is_code (only (bits_in bits a.term)) q

-- where values are owed, the one of some name is
abbrev pub IsOpen : Due → List LiveName → List (ℕ × Value) → Type 0
IsOpen Values live values = length values < length live
IsOpen _ live values = Unit {0}

-- each value is one that its declaration may have
abbrev pub AreOfSignatures : List Signature → List (ℕ × Value) → Type 0
AreOfSignatures signatures values = AllByRecursion (λ (p : ℕ × Value). IsOfSignature p.1 (slice_get signatures p.0)) values

-- where values are owed, those so far are such ones
abbrev pub AreKept : Due → List Signature → List (ℕ × Value) → Type 0
AreKept Values signatures values = AreOfSignatures signatures values
AreKept _ signatures values = Unit {0}

-- the next line, with all else the same
abbrev pub gone_on : Judging → Judging
gone_on j = record { format = j.format; limits = j.limits; state = j.state; log = j.log; deleted = j.deleted; owed = j.owed; line = j.line + 1 }

-- the check ends with this verdict
abbrev pub closed_with : CheckerValue → Verdict → CheckerValue
closed_with c v = record { judging = record { format = c.judging.format; limits = c.judging.limits; state = concluded c.judging.state v; log = c.judging.log; deleted = c.judging.deleted; owed = judged.Nothing; line = c.judging.line + 1 }; verdicts = c.verdicts ++ v ∷ [] }

-- values of a model are owed
abbrev pub IsOwedValues : Owed → Type 0
IsOwedValues (judged.Values next left values) = Unit {0}
IsOwedValues _ = ⊥

-- the search of the cube may start at the position
abbrev pub MaySearch : Judging → ℕ → ℕ → Type 0
MaySearch j cube start = IsSearch j.limits j.state j.state.terms.nodes j.log cube start

-- what it takes as true
abbrev pub given_in : Judging → ℕ → List Literal
given_in j cube = given_literals j.limits j.state j.state.terms.nodes j.log cube

-- none of the lines names a deleted place
abbrev pub AreLeft : List ℕ → List DiaryLine → Type 0
AreLeft deleted lines = AllByRecursion (λ l. is_deleted deleted (place_of l) ≡ false) lines

-- where lines of a diary are owed, those so far were read, over the log as it is, and none of them names a deleted place
abbrev pub IsNoted : searching.Limits → StateValue → List Entry → List ℕ → Due → Type 0
IsNoted limits s log deleted (Noted n) = HasRead (is_deleted deleted) (subject_of limits s s.terms.nodes log n.cube n.start) n.lines n.reader × AreLeft deleted n.lines
IsNoted limits s log deleted _ = Unit {0}

-- one line more, which may stand there
pub record HasLine (limits : searching.Limits) (s : StateValue) (log : List Entry) (deleted : List ℕ) (old : Noting) (l : DiaryLine) (new : Noting) : Type 0 where
  pub cube : new.cube ≡ old.cube
  pub start : new.start ≡ old.start
  pub left : new.left ≡ old.left
  pub lines : new.lines ≡ old.lines ++ l ∷ []
  pub noted : IsNoted limits s log deleted (Noted new)

-- the line may not stand there
abbrev pub IsNoLine : searching.Limits → StateValue → List Entry → List ℕ → Noting → DiaryLine → Type 0
IsNoLine limits s log deleted n l =
    let g = subject_of limits s s.terms.nodes log n.cube n.start in
    ((is_deleted deleted (place_of l) ≡ false) × diaries.IsLine g (lines_after g (blank_without (is_deleted deleted) g) n.lines) l) → ⊥

-- lines of a diary are owed
abbrev pub IsOwedLines : Owed → Type 0
IsOwedLines (judged.Noted cube start left lines) = Unit {0}
IsOwedLines _ = ⊥

-- one more line of a diary, where one is owed
abbrev pub NotesBy : Owed → Judging → DiaryLine → Judging → Type 0
NotesBy (judged.Noted cube start left lines) j l k = Notes j cube start left lines l k
NotesBy _ j l k = ⊥

-- where these lines go, of which so many are left
abbrev pub LinesTo : Judging → Noting → ℕ → Judging → Type 0
LinesTo j n zero k = Decides (IsSpentWithout j.deleted (subject_at j n.cube n.start) j.limits.budget n.lines) (closed j (shown.Unknown (record { cube = n.cube; start = n.start; lines = n.lines }))) (refused j rule.Diary) k
LinesTo j n (suc left) k = k ≡ noted j n.cube n.start left n.lines

-- the same, where the last of them may stand, or not
abbrev pub ReadTo : Judging → Noting → Bool → Judging → Type 0
ReadTo j n true k = LinesTo j n n.left k
ReadTo j n false k = k ≡ refused j rule.Diary
