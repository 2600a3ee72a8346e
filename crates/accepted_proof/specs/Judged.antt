-- What is judged of the lines of a proof, one after the other: the first bad line and its rule, or that there is none.
use Rattle.std.specs.Prelude.{◌≡◌, ◌⊎◌, ◌+◌, ℕ, zero, suc, Bool, true, false, if◌then◌else◌, List, [], ◌∷◌, ◌++◌, length, slice_get, Option, Some, None, IfSome}
use Rattle.std.specs.List.{list_any, AllByRecursion}
use Rattle.smt_text.specs.declared.chunk.Chunk.{Chunk}
use Rattle.smt_text.specs.Script.{AreChunks}
use Rattle.smt_values.specs.declared.value.Value.{Value}
use Rattle.smt_build.specs.declared.symbols.LiveName.{LiveName}
use Rattle.script_state.specs.declared.answer.Answer.{Answer}
use Rattle.script_state.specs.declared.answer.Answer.TheVariants as answer
use Rattle.script_state.specs.States.{StateValue, no_state, concluded}
use Rattle.script_state.specs.Readings.{Reading, ReadsAs}
use Rattle.script_state.specs.Steps.{step, settled, ends}
use Rattle.proof_log.specs.declared.entry.Entry.{Entry}
use Rattle.proof_log.specs.declared.diary.DiaryLine.{DiaryLine}
use Rattle.proof_log.specs.declared.diary.DiaryLine.TheVariants as diary
use Rattle.proof_log.specs.Logs.{state_of}
use Rattle.proof_log.specs.Diaries.{Subject, lines_after}
use Rattle.proof_log.specs.Diaries as diaries
use Rattle.proof_log.specs.Faults.{IsValid}
use Rattle.proof_text.specs.declared.line.WrittenValue.{WrittenValue}
use Rattle.proof_text.specs.declared.line.Format.{Format}
use Rattle.proof_text.specs.declared.line.Format.TheVariants.{One, Two}
use Rattle.proof_text.specs.Deletions.{AreDeletable, IsSpentWithout, blank_without, cites, place_of, is_deleted}
use Rattle.proof_text.specs.declared.line.Line.{Line}
use Rattle.proof_text.specs.declared.line.Line.TheVariants as line
use Rattle.proof_text.specs.Lines.{IsLine}
use Rattle.proof_text.specs.Entries.{entry_line}
use Rattle.proof_text.specs.declared.record.Record.{Record}
use Rattle.proof_text.specs.declared.record.Record.TheVariants as shown
use Rattle.proof_text.specs.Records.{written_value}
use Rattle.accepted_proof.specs.declared.refusal.RuleName.{RuleName}
use Rattle.accepted_proof.specs.declared.refusal.RuleName.TheVariants as rule
use Rattle.accepted_proof.specs.declared.refusal.Refusal.{Refusal}
use Rattle.accepted_proof.specs.Models.{interpretation_of, IsModel, IsOfSignature}
use Rattle.accepted_proof.specs.Searching.{Limits, AreLimits, IsSearch, subject_of}
use Rattle.accepted_proof.specs.Accepted.{IsFront}
use Rattle.accepted_proof.specs.Turns.{IsOfScript, IsRefutation, with_step, verdict_of}

-- ---- where the judging stands

-- What is owed of the check that stands open: nothing, since none does; its steps and its record; the values of a model,
-- of which the next is that of a name, the further ones those of others, and some are there; the lines of the diary of a
-- cube, of which one is next, so many further ones are left, and some are there. Or a line was refused.
pub data Owed : Type 0 where
  Nothing Steps : Owed
  Values : (next : LiveName) (left : List LiveName) (values : List (ℕ × Value)) → Owed
  Noted : (cube start left : ℕ) (lines : List DiaryLine) → Owed
  Over : (refusal : Refusal) → Owed

-- the format and the limits of the header, the state of the commands, the log, the places that are deleted, what is owed, and the
-- number of the line that is read next
pub record Judging : Type 0 where
  pub format : Format
  pub limits : Limits
  pub state : StateValue
  pub log : List Entry
  pub deleted : List ℕ
  pub owed : Owed
  pub line : ℕ

-- behind the header, which is line 1, where the commands are obeyed from this state on
abbrev pub judging_from : Format → Limits → Judging
judging_from format limits = record { format = format; limits = limits; state = no_state; log = []; deleted = []; owed = Nothing; line = 2 }

-- ---- where it goes

-- the line is refused by this rule
abbrev pub refused : Judging → RuleName → Judging
refused j r = record { format = j.format; limits = j.limits; state = j.state; log = j.log; deleted = j.deleted; owed = Over (record { line = j.line; rule = r }); line = j.line }

abbrev pub stepped : Judging → Entry → Judging
stepped j e = record { format = j.format; limits = j.limits; state = with_step j.state e; log = j.log ++ e ∷ []; deleted = j.deleted; owed = Steps; line = j.line + 1 }

-- these places are deleted
abbrev pub deleting : Judging → List ℕ → Judging
deleting j places = record { format = j.format; limits = j.limits; state = j.state; log = j.log; deleted = j.deleted ++ places; owed = Steps; line = j.line + 1 }

abbrev pub valued : Judging → LiveName → List LiveName → List (ℕ × Value) → Judging
valued j next left values = record { format = j.format; limits = j.limits; state = j.state; log = j.log; deleted = j.deleted; owed = Values next left values; line = j.line + 1 }

abbrev pub noted : Judging → ℕ → ℕ → ℕ → List DiaryLine → Judging
noted j cube start left lines = record { format = j.format; limits = j.limits; state = j.state; log = j.log; deleted = j.deleted; owed = Noted cube start left lines; line = j.line + 1 }

-- the check ends with this record
abbrev pub closed : Judging → Record → Judging
closed j r = record { format = j.format; limits = j.limits; state = concluded j.state (verdict_of r); log = j.log; deleted = j.deleted; owed = Nothing; line = j.line + 1 }

abbrev pub owed_by : Answer → Owed
owed_by answer.Check = Steps
owed_by _ = Nothing

-- a command that is refused is passed over, and a check owes its steps and its record
abbrev pub commanded : Judging → Reading → Judging
commanded j says = record { format = j.format; limits = j.limits; state = settled j.state (step j.state says).0 (step j.state says).1; log = j.log; deleted = j.deleted; owed = owed_by (step j.state says).0; line = j.line }

-- ---- lines

-- the one, where this holds, else the other
abbrev pub Decides : Type 0 → Judging → Judging → Judging → Type 0
Decides P one other k = (P × (k ≡ one)) ⊎ ((P → ⊥) × (k ≡ other))

-- the rule of a step's line
abbrev pub rule_of : Line → RuleName
rule_of (line.Term head args) = rule.Node
rule_of (line.Leaf t) = rule.Leaf
rule_of (line.Encode t) = rule.Encode
rule_of (line.Rewrite r t u) = rule.Rewrite
rule_of (line.Selector a) = rule.Selector
rule_of (line.Chain clause hints) = rule.Chain
rule_of (line.Equal t u) = rule.Equal
rule_of (line.Congruence t u) = rule.Lemma
rule_of (line.Witness t) = rule.Lemma
rule_of (line.Accesses a b) = rule.Lemma
rule_of _ = rule.Line

-- the line is that of a step which is valid here, and cites none of the places that are deleted
pub record IsStepOf (s : StateValue) (log : List Entry) (deleted : List ℕ) (l : Line) (e : Entry) : Type 0 where
  pub written : entry_line e ≡ Some l
  pub script : IsOfScript s e
  pub valid : IsValid s.terms (state_of s.terms.nodes log) e
  pub left : cites deleted e ≡ false

abbrev pub StepsBy : Judging → Line → Judging → Type 0
StepsBy j l k = ((e : Entry) × IsStepOf j.state j.log j.deleted l e × (k ≡ stepped j e)) ⊎ (((e : Entry) → IsStepOf j.state j.log j.deleted l e → ⊥) × (k ≡ refused j (rule_of l)))

-- the places are deleted, which the first format cannot say
abbrev pub Deletes : Format → Judging → List ℕ → Judging → Type 0
Deletes One j places k = k ≡ refused j rule.Line
Deletes Two j places k = Decides (AreDeletable j.log j.deleted places) (deleting j places) (refused j rule.Delete) k

-- the next value is owed, or all are there, and then each live assertion and each assumption has to be true under them
abbrev pub Goes : Judging → List LiveName → List (ℕ × Value) → Judging → Type 0
Goes j [] values k = Decides (IsModel j.state (interpretation_of values)) (closed j (shown.Sat values)) (refused j rule.Sat) k
Goes j (next ∷ left) values k = k ≡ valued j next left values

-- a diary of so many lines is owed, where a search of the cube may start there; without a line none is spent
abbrev pub Opens : Judging → ℕ → ℕ → ℕ → Judging → Type 0
Opens j cube start zero k = k ≡ refused j rule.Diary
Opens j cube start (suc left) k = Decides (IsSearch j.limits j.state j.state.terms.nodes j.log cube start) (noted j cube start left []) (refused j rule.Diary) k

-- a line of a check, before its record's end
abbrev pub AtStep : Judging → Line → Judging → Type 0
AtStep j (line.Header format cubes budget) k = k ≡ refused j rule.Line
AtStep j (line.Term head args) k = StepsBy j (line.Term head args) k
AtStep j (line.Leaf t) k = StepsBy j (line.Leaf t) k
AtStep j (line.Encode t) k = StepsBy j (line.Encode t) k
AtStep j (line.Rewrite r t u) k = StepsBy j (line.Rewrite r t u) k
AtStep j (line.Selector a) k = StepsBy j (line.Selector a) k
AtStep j (line.Chain clause hints) k = StepsBy j (line.Chain clause hints) k
AtStep j (line.Equal t u) k = StepsBy j (line.Equal t u) k
AtStep j (line.Congruence t u) k = StepsBy j (line.Congruence t u) k
AtStep j (line.Witness t) k = StepsBy j (line.Witness t) k
AtStep j (line.Accesses a b) k = StepsBy j (line.Accesses a b) k
AtStep j (line.Delete places) k = Deletes j.format j places k
AtStep j (line.Sat count) k = ((count ≡ length j.state.symbols.live) × Goes j j.state.symbols.live [] k) ⊎ ((count ≡ length j.state.symbols.live → ⊥) × (k ≡ refused j rule.Sat))
AtStep j (line.Value d w) k = k ≡ refused j rule.Line
AtStep j (line.Unsat p) k = Decides ((is_deleted j.deleted p ≡ false) × IsRefutation j.state j.state.terms.nodes j.log p) (closed j (shown.Unsat p)) (refused j rule.Unsat) k
AtStep j (line.Unknown cube start count) k = Opens j cube start count k
AtStep j (line.Take p) k = k ≡ refused j rule.Line
AtStep j (line.Put p) k = k ≡ refused j rule.Line
AtStep j (line.Drop p) k = k ≡ refused j rule.Line

-- the value is of the sort of the name's declaration, and written so
pub record IsValueOf (s : StateValue) (next : LiveName) (d : ℕ) (w : WrittenValue) (v : Value) : Type 0 where
  pub declaration : d ≡ next.declaration
  pub written : written_value v ≡ Some w
  pub sorted : IsOfSignature v (slice_get s.symbols.signatures d)

-- a line where the value of a name is owed
abbrev pub AtValue : Judging → LiveName → List LiveName → List (ℕ × Value) → Line → Judging → Type 0
AtValue j next left values (line.Value d w) k = ((v : Value) × IsValueOf j.state next d w v × Goes j left (values ++ (d, v) ∷ []) k) ⊎ (((v : Value) → IsValueOf j.state next d w v → ⊥) × (k ≡ refused j rule.Sat))
AtValue j next left values _ k = k ≡ refused j rule.Line

-- what the diary of a cube is about
abbrev pub subject_at : Judging → ℕ → ℕ → Subject
subject_at j cube start = subject_of j.limits j.state j.state.terms.nodes j.log cube start

-- the line may stand behind these in a diary, which names no deleted place
abbrev pub MayStand : Judging → ℕ → ℕ → List DiaryLine → DiaryLine → Type 0
MayStand j cube start lines l =
    (is_deleted j.deleted (place_of l) ≡ false) × diaries.IsLine (subject_at j cube start) (lines_after (subject_at j cube start) (blank_without (is_deleted j.deleted) (subject_at j cube start)) lines) l

-- one more line of a diary, which stands behind the others; with the last of them the budget is spent
abbrev pub Notes : Judging → ℕ → ℕ → ℕ → List DiaryLine → DiaryLine → Judging → Type 0
Notes j cube start zero lines l k =
    Decides (IsSpentWithout j.deleted (subject_at j cube start) j.limits.budget (lines ++ l ∷ [])) (closed j (shown.Unknown (record { cube = cube; start = start; lines = lines ++ l ∷ [] }))) (refused j rule.Diary) k
Notes j cube start (suc left) lines l k =
    Decides (MayStand j cube start lines l) (noted j cube start left (lines ++ l ∷ [])) (refused j rule.Diary) k

-- a line where one of a diary is owed
abbrev pub AtDiary : Judging → ℕ → ℕ → ℕ → List DiaryLine → Line → Judging → Type 0
AtDiary j cube start left lines (line.Take p) k = Notes j cube start left lines (diary.Take p) k
AtDiary j cube start left lines (line.Put p) k = Notes j cube start left lines (diary.Put p) k
AtDiary j cube start left lines (line.Drop p) k = Notes j cube start left lines (diary.Drop p) k
AtDiary j cube start left lines _ k = k ≡ refused j rule.Line

abbrev pub MovesBy : Owed → Judging → Option Line → Judging → Type 0
MovesBy Nothing j l k = k ≡ refused j rule.End
MovesBy Steps j None k = k ≡ refused j rule.Line
MovesBy Steps j (Some l) k = AtStep j l k
MovesBy (Values next left values) j None k = k ≡ refused j rule.Line
MovesBy (Values next left values) j (Some l) k = AtValue j next left values l k
MovesBy (Noted cube start left lines) j None k = k ≡ refused j rule.Line
MovesBy (Noted cube start left lines) j (Some l) k = AtDiary j cube start left lines l k
MovesBy (Over r) j l k = k ≡ j

-- one line more, which is none of a proof where there is None
abbrev pub Moves : Judging → Option Line → Judging → Type 0
Moves j l k = MovesBy j.owed j l k

-- ---- whole proofs

abbrev pub is_idle : Owed → Bool
is_idle Nothing = true
is_idle Steps = false
is_idle (Values next left values) = false
is_idle (Noted cube start left lines) = false
is_idle (Over r) = false

-- the commands up to the next check are done; behind one that ends the run there are none
abbrev pub reach : Judging → List Reading → Judging × List Reading
reach j [] = (j, [])
reach j (c ∷ cs) = if is_idle j.owed then (if ends c then (commanded j c, []) else reach (commanded j c) cs) else (j, c ∷ cs)

-- what is judged where the text ends
abbrev pub ending : Owed → ℕ → Option Refusal
ending Nothing n = None
ending Steps n = Some (record { line = n; rule = rule.End })
ending (Values next left values) n = Some (record { line = n; rule = rule.End })
ending (Noted cube start left lines) n = Some (record { line = n; rule = rule.End })
ending (Over r) n = Some r

-- what is judged of the lines that follow, where these commands follow: the first bad line, if there is one
abbrev pub Judged : Judging → List Reading → List (Option Line) → Option Refusal → Type 0
Judged j cs [] o = o ≡ ending (reach j cs).0.owed (reach j cs).0.line
Judged j cs (l ∷ ls) o = (k : Judging) × Moves (reach j cs).0 l k × Judged k (reach j cs).1 ls o

-- the line is a header of this format with these limits, and a proof may begin with them
pub record IsHeader (l : Option Line) (format : Format) (limits : Limits) : Type 0 where
  pub written : l ≡ Some (line.Header format limits.cubes limits.budget)
  pub allowed : AreLimits limits

abbrev pub bad_header : Refusal
bad_header = record { line = 1; rule = rule.Header }

-- what is judged of all lines of a proof, where these are the commands of the script
abbrev pub JudgedProof : List Reading → List (Option Line) → Option Refusal → Type 0
JudgedProof cs [] o = o ≡ Some bad_header
JudgedProof cs (l ∷ ls) o = ((format : Format) × (limits : Limits) × IsHeader l format limits × Judged (judging_from format limits) cs ls o) ⊎ (((format : Format) (limits : Limits) → IsHeader l format limits → ⊥) × (o ≡ Some bad_header))

-- each is a line that can be read, or none
abbrev pub AreReadable : List (Option Line) → Type 0
AreReadable lines = AllByRecursion (λ l. IfSome l IsLine) lines

-- each chunk reads as this
abbrev pub ReadEach : List Chunk → List Reading → Type 0
ReadEach [] [] = Unit {0}
ReadEach [] (s ∷ ss) = ⊥
ReadEach (c ∷ cs) [] = ⊥
ReadEach (c ∷ cs) (s ∷ ss) = ReadsAs c s × ReadEach cs ss

-- these chunks, which read so, are all that is read of the script: all of it, or what stands up to a command that ends the run
abbrev pub AreAllSaid : List ℕ → List Chunk → List Reading → Type 0
AreAllSaid script chunks says = AreChunks script chunks ⊎ ((list_any ends says ≡ true) × IsFront script chunks)
