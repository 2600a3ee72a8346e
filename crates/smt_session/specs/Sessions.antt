-- What contracts see of a session.
use Rattle.std.specs.Prelude.{◌≡◌, ℕ, suc, ◌<◌, ◌≤◌, Bool, true, false, List, [], ◌++◌, length, All, Option, Some}
use Rattle.std.specs.List.{flat_map, AllByRecursion}
use Rattle.std.specs.Io.KnownBytes.{Appends}
use Rattle.smt_text.specs.declared.chunk.Chunk.{Chunk}
use Rattle.script_state.specs.declared.answer.Answer.{Answer}
use Rattle.script_state.specs.declared.answer.Answer.TheVariants.{Values, Exit}
use Rattle.script_state.specs.declared.answer.Asked.{Asked}
use Rattle.script_state.specs.Readings.{ReadsAs}
use Rattle.script_state.specs.States.{StateValue, IsState}
use Rattle.script_state.specs.Steps.{ends, step}
use Rattle.proof_log.specs.declared.entry.Entry.{Entry}
use Rattle.proof_log.specs.Stored.{LogValue, Stands}
use Rattle.proof_text.specs.declared.record.Record.{Record}
use Rattle.proof_text.specs.declared.line.Line.{Line}
use Rattle.proof_text.specs.Lines.{line_text, IsLine}
use Rattle.accepted_proof.specs.Searching.{Limits, AreLimits}
use Rattle.accepted_proof.specs.Turns.{Item, Part, Turn, IsTurn, IsShown, HasProof, with_steps, concluded_by, state_after, item_lines, part_lines, shown_lines}
use Rattle.accepted_proof.specs.Answers.{answer_text, is_error, is_refused, last_shown, turn_text}
use Rattle.proof_file.specs.Equalities.{HasTakenFirst}
use Rattle.proof_file.specs.Places.{FileValue}
use Rattle.proof_file.specs.Held.{PlacesValue, file_in}
use Rattle.proof_file.specs.Trimmed.{IsTrimmed, IsTrimmedTo}
use Rattle.smt_session.specs.declared.response.Response.{Response}
use Rattle.smt_session.specs.declared.response.Stop.{Stop}
use Rattle.smt_session.specs.declared.response.Stop.TheVariants.{Failed, NoMemory}
use Rattle.smt_session.specs.declared.settings.Settings.{Settings}
use Rattle.smt_session.specs.Growing.{AreStepsFor, Grows, LeadsTo}
use Rattle.smt_session.specs.Thorough.{AreSearched, IsThorough}

-- the limits that settings give
abbrev pub limits_of : Settings → Limits
limits_of s = record { cubes = s.cubes; budget = s.budget }

-- the limits are allowed, and there are 1 to 64 workers
pub record AreSettings (s : Settings) : Type 0 where
  pub limits : AreLimits (limits_of s)
  pub some : 0 < s.workers
  pub few : s.workers ≤ 64

-- the state of the commands, the log of the checks, where its steps stand in the proof file, the record of the last check, and the
-- limits of every check
pub record SessionValue : Type 0 where
  pub state : StateValue
  pub log : LogValue
  pub file : PlacesValue
  pub shown : Option Record
  pub limits : Limits

-- the commands left a state, the log stands over its terms, and the steps are for the script
pub record IsSession (s : StateValue) (log : LogValue) : Type 0 where
  pub state : IsState s
  pub stands : Stands s.terms.nodes log
  pub each : AreStepsFor s log.entries

-- a text, which may be an error, and with which the run may end
abbrev pub response : List ℕ → Bool → Bool → Response
response text error ends = record { text = text; error = error; ends = ends }

-- whether the run ends with the answer
abbrev pub is_end : Answer → Bool
is_end Exit = true
is_end _ = false

-- whether the values of terms are to be printed, which are then forgotten
abbrev pub asks_values : Answer → Bool
asks_values (Values asked) = true
asks_values _ = false

-- the terms are held that values are asked of
abbrev pub AreHeld : StateValue → Answer → Type 0
AreHeld s (Values asked) = All (λ (a : Asked). a.term < length s.terms.nodes) asked
AreHeld s _ = Unit {0}

-- The log grew by the steps of a search, which the record may end within these limits, and all cubes were searched. What is put in a
-- diary comes behind the equalities that stand before it.
pub record IsConcluded (limits : Limits) (s : StateValue) (old new : LogValue) (r : Record) : Type 0 where
  pub grows : Grows s old new
  pub shown : IsShown limits s s.terms.nodes new.entries r
  pub cubes : AreSearched limits s s.terms.nodes new.entries (Some r)
  pub taken : HasTakenFirst (suc (length old.entries)) new.entries (Some r)

-- The steps of a check lead from the one state to the other, and the record may end it within these limits. It was as thorough
-- as checks are. What is put in a diary comes behind the equalities that stand before it.
pub record IsChecked (limits : Limits) (s s' : StateValue) (old new : LogValue) (r : Record) : Type 0 where
  pub leads : LeadsTo s old s' new
  pub shown : IsShown limits s s'.terms.nodes new.entries r
  pub thorough : IsThorough limits s old.entries leads.added (Some r)
  pub taken : HasTakenFirst (suc (length old.entries)) new.entries (Some r)

-- What the file gets for these steps of a check and its record, which began with this log in this state: each of the lines can be
-- read. Nothing is there for what is no check.
pub record IsFiled (s : StateValue) (log steps : List Entry) (shown : Option Record) (old new : FileValue) (lines : List Line) : Type 0 where
  pub items : List Item
  pub placed : Option Record
  pub trims : IsTrimmedTo s.terms.nodes s.scopes.live log steps shown old new items placed
  pub taken : HasTakenFirst (suc (length log)) (log ++ steps) shown
  pub lines_are : lines ≡ flat_map item_lines items ++ shown_lines placed
  pub readable : AllByRecursion IsLine lines

-- How what the state says of a command is answered within these limits, which begins on this line, where the last check
-- before has a record; and what the state, before terms are forgotten, the log, the file and the record of the last check are then.
pub record Responds (limits : Limits) (line : ℕ) (answer : Answer) (s s' : StateValue) (old new : LogValue) (file file' : FileValue) (last now : Option Record) (r : Response) (written written' : Option (List ℕ)) : Type 0 where
  pub steps : List Entry
  pub shown : Option Record
  pub proof : HasProof limits answer s old.entries steps shown
  pub thorough : IsThorough limits s old.entries steps shown
  pub state : s' ≡ concluded_by (with_steps s steps) shown
  pub log : new.entries ≡ old.entries ++ steps
  pub kept : now ≡ last_shown last shown
  pub lines : List Line
  pub filed : IsFiled s old.entries steps shown file file' lines
  pub added : Appends written written' (flat_map line_text lines)
  pub text : r.text ≡ answer_text line answer s old.entries last shown
  pub error : r.error ≡ is_error answer
  pub ends : r.ends ≡ is_end answer

-- The command is applied, and what is answered is that of a turn which may follow within the limits, which stay; what is written is
-- the part that the file gets for it, each line of which can be read. No step makes a term that no use of a rule needs, and a spent
-- cube does not stop the later ones.
pub record IsAnswered (chunk : Chunk) (old new : SessionValue) (r : Response) (written written' : Option (List ℕ)) : Type 0 where
  pub turn : Turn
  pub line : turn.line ≡ chunk.line
  pub reads : ReadsAs chunk turn.says
  pub stands : IsTurn old.limits old.state old.log.entries turn
  pub thorough : IsThorough old.limits (step old.state turn.says).1 old.log.entries turn.steps turn.shown
  pub state : new.state ≡ state_after old.state turn
  pub log : new.log.entries ≡ old.log.entries ++ turn.steps
  pub shown : new.shown ≡ last_shown old.shown turn.shown
  pub limits : new.limits ≡ old.limits
  pub part : Part
  pub trims : IsTrimmed old.state old.log.entries (file_in old.file) (file_in new.file) turn part
  pub taken : HasTakenFirst (suc (length old.log.entries)) (old.log.entries ++ turn.steps) turn.shown
  pub lines : Appends written written' (flat_map line_text (part_lines part))
  pub text : r.text ≡ turn_text old.state old.log.entries old.shown turn
  pub error : r.error ≡ is_refused turn
  pub ends : r.ends ≡ ends turn.says

-- ---- a command that gets no answer

-- a front of the text was written, which is not the whole
pub record WritesFront (text : List ℕ) (written written' : Option (List ℕ)) : Type 0 where
  pub front : List ℕ
  pub left : List ℕ
  pub parts : text ≡ front ++ left
  pub unfinished : 0 < length left
  pub added : Appends written written' front

-- a front was written of what the file gets for a check, whose steps and record may stand here
pub record CutsCheck (limits : Limits) (answer : Answer) (s : StateValue) (log : List Entry) (file : FileValue) (written written' : Option (List ℕ)) : Type 0 where
  pub steps : List Entry
  pub shown : Option Record
  pub proof : HasProof limits answer s log steps shown
  pub file' : FileValue
  pub lines : List Line
  pub filed : IsFiled s log steps shown file file' lines
  pub front : WritesFront (flat_map line_text lines) written written'

-- a front was written of the part that the file gets for a turn, which may follow within the limits
pub record CutsTurn (chunk : Chunk) (old : SessionValue) (written written' : Option (List ℕ)) : Type 0 where
  pub turn : Turn
  pub line : turn.line ≡ chunk.line
  pub reads : ReadsAs chunk turn.says
  pub stands : IsTurn old.limits old.state old.log.entries turn
  pub file : FileValue
  pub part : Part
  pub trims : IsTrimmed old.state old.log.entries (file_in old.file) file turn part
  pub taken : HasTakenFirst (suc (length old.log.entries)) (old.log.entries ++ turn.steps) turn.shown
  pub lines : WritesFront (flat_map line_text (part_lines part)) written written'

-- what a stop leaves in the proof: a front of the lines, where a write failed, and nothing where memory is wanting
abbrev pub Leaves : Stop → Type 0 → Option (List ℕ) → Option (List ℕ) → Type 0
Leaves Failed front written written' = front
Leaves NoMemory front written written' = Appends written written' []
