-- What contracts see of a check that reads its two texts in pieces.
use Rattle.std.specs.Prelude.{◌≡◌, ◌⊎◌, ℕ, ◌+◌, ◌<◌, ◌≤◌, Bool, true, false, if◌then◌else◌, List, [], ◌∷◌, ◌++◌, length, Option, Some, None}
use Rattle.smt_text.specs.declared.chunk.Chunk.{Chunk}
use Rattle.smt_text.specs.Framing.{and_more}
use Rattle.smt_text.specs.Script.{AreCut}
use Rattle.script_state.specs.declared.answer.Verdict.{Verdict}
use Rattle.proof_text.specs.declared.line.Line.{Line}
use Rattle.accepted_proof.specs.declared.refusal.Refusal.{Refusal}
use Rattle.accepted_proof.specs.Judged.{is_idle}
use Rattle.proof_checker.specs.Checkers.{Says, CheckerValue, IsRead, line_in}
use Rattle.proof_checker.specs.Checked.{AreLines, Tells, TellsProof, IsTold, IsToldSoFar, shown_at}
use Rattle.proof_checker.specs.declared.inputs.Inputs.{Inputs}
use Rattle.proof_checker.specs.declared.inputs.NextLine.{NextLine}
use Rattle.proof_checker.specs.declared.inputs.NextLine.TheVariants as line
use Rattle.proof_checker.specs.declared.inputs.NextChunk.{NextChunk}
use Rattle.proof_checker.specs.declared.inputs.NextChunk.TheVariants as chunk
use Rattle.proof_checker.specs.declared.checking.Checking.{Checking}
use Rattle.proof_checker.specs.declared.checking.Judgement.{Judgement}
use Rattle.proof_checker.specs.declared.checking.Progress.{Progress}
use Rattle.proof_checker.specs.declared.checking.Progress.TheVariants as progress
use Rattle.proof_checker.specs.declared.checking.Step.{Step}
use Rattle.proof_checker.specs.declared.checking.Step.TheVariants as step

-- ---- what is still to come

-- nothing comes behind an end
abbrev pub MayCome : Bool → List ℕ → Type 0
MayCome ended bytes = ended ≡ true → bytes ≡ []

-- the commands that are still to be done: none, where the run ended
abbrev pub to_be_done : Bool → List Says → List Says
to_be_done ended cs = if ended then [] else cs

-- what is told of the lines behind those that were judged; the verdicts are those of the whole
abbrev pub told_from : Bool → Option CheckerValue → List Says → List (Option Line) → List Verdict → Option Refusal → Type 0
told_from ended None cs ls vs o = TellsProof (to_be_done ended cs) ls vs o
told_from ended (Some c) cs ls vs o = (rest : List Verdict) × (vs ≡ c.verdicts ++ rest) × Tells c.judging (to_be_done ended cs) ls rest o

-- what is judged, where these bytes of the script and of the proof are still to come
abbrev pub IsJudgedFrom : Inputs → Option CheckerValue → List ℕ → List ℕ → List Verdict → Option Refusal → Type 0
IsJudgedFrom i c script proof vs o = IsTold (told_from i.run_ended c) i.run_ended (and_more i.framer script) (i.reader.bytes ++ proof) vs o

abbrev pub Judges : Checking → List ℕ → List ℕ → List Verdict → Option Refusal → Type 0
Judges c script proof vs o = IsJudgedFrom c.inputs c.checker script proof vs o

-- a front of what is still to come is accepted, with these verdicts of the whole
abbrev pub IsAcceptedFrom : Inputs → Option CheckerValue → List ℕ → List ℕ → List Verdict → Type 0
IsAcceptedFrom i c script proof vs = IsToldSoFar (told_from i.run_ended c) (and_more i.framer script) (i.reader.bytes ++ proof) vs

abbrev pub Accepts : Checking → List ℕ → List ℕ → List Verdict → Type 0
Accepts c script proof vs = IsAcceptedFrom c.inputs c.checker script proof vs

-- bytes that may be still to come
pub record AreToCome (i : Inputs) (s p : List ℕ) : Type 0 where
  pub script : MayCome i.script_ended s
  pub proof : MayCome i.proof_ended p

-- whether the script and the proof are ended
pub record AreEnded (c : Checking) (s p : Bool) : Type 0 where
  pub script : c.inputs.script_ended ≡ s
  pub proof : c.inputs.proof_ended ≡ p

-- so many bytes are held
abbrev pub held_by : Inputs → ℕ
held_by i = length i.framer.bytes + length i.reader.bytes

-- a piece of so many bytes was fed, and nothing judged
pub record IsFed (old new : Checking) (n : ℕ) : Type 0 where
  pub checker : new.checker ≡ old.checker
  pub held : held_by new.inputs ≤ held_by old.inputs + n

-- whatever comes, what is judged or accepted behind is before, and no more bytes are held
pub record Keeps (old : Inputs) (before : Option CheckerValue) (new : Checking) : Type 0 where
  pub judged : (script proof : List ℕ) (vs : List Verdict) (o : Option Refusal) → AreToCome old script proof → Judges new script proof vs o → IsJudgedFrom old before script proof vs o
  pub accepted : (script proof : List ℕ) (vs : List Verdict) → AreToCome old script proof → Accepts new script proof vs → IsAcceptedFrom old before script proof vs
  pub script : new.inputs.script_ended ≡ old.script_ended
  pub proof : new.inputs.proof_ended ≡ old.proof_ended
  pub held : held_by new.inputs ≤ held_by old

abbrev pub verdicts_by : Option CheckerValue → List Verdict
verdicts_by None = []
verdicts_by (Some c) = c.verdicts

-- whatever comes, this is judged
abbrev pub Concludes : Inputs → Option CheckerValue → Judgement → Type 0
Concludes old before j = (script proof : List ℕ) → AreToCome old script proof → IsJudgedFrom old before script proof (verdicts_by j.checker) j.refusal

-- whatever comes, so much is accepted
abbrev pub IsShowing : Inputs → Option CheckerValue → Checking → Type 0
IsShowing old before c = (script proof : List ℕ) → AreToCome old script proof → IsAcceptedFrom old before script proof (verdicts_by c.checker)

-- ---- what is taken of the texts

-- all but the proof's text is the same
pub record IsSameScript (old new : Inputs) : Type 0 where
  pub framer : new.framer ≡ old.framer
  pub script : new.script_ended ≡ old.script_ended
  pub run : new.run_ended ≡ old.run_ended
  pub proof : new.proof_ended ≡ old.proof_ended

-- all but the script's text is the same
pub record IsSameProof (old new : Inputs) : Type 0 where
  pub reader : new.reader ≡ old.reader
  pub script : new.script_ended ≡ old.script_ended
  pub run : new.run_ended ≡ old.run_ended
  pub proof : new.proof_ended ≡ old.proof_ended

-- the line was taken, which is one of the proof where there is a line
pub record TakesLine (old new : Inputs) (l : Option Line) : Type 0 where
  pub lines : (more : List ℕ) (ls : List (Option Line)) → MayCome old.proof_ended more → AreLines (new.reader.bytes ++ more) ls → AreLines (old.reader.bytes ++ more) (l ∷ ls)
  pub less : length new.reader.bytes < length old.reader.bytes

-- the chunk was taken
pub record TakesChunk (old new : Inputs) (c : Chunk) : Type 0 where
  pub chunks : (more : List ℕ) (cs : List Chunk) → MayCome old.script_ended more → AreCut (and_more new.framer more) cs → AreCut (and_more old.framer more) (c ∷ cs)
  pub less : length new.framer.bytes < length old.framer.bytes

-- the proof is at its end
pub record IsProofAtEnd (i : Inputs) : Type 0 where
  pub ended : i.proof_ended ≡ true
  pub empty : i.reader.bytes ≡ []

-- the script is at its end
pub record IsScriptAtEnd (i : Inputs) : Type 0 where
  pub ended : i.script_ended ≡ true
  pub cut : AreCut i.framer []

abbrev pub GivesLine : Inputs → Inputs → NextLine → Type 0
GivesLine old new (line.Line l) = IsRead l × TakesLine old new (line_in l)
GivesLine old new line.End = IsProofAtEnd old × (new.reader ≡ old.reader)
GivesLine old new line.More = (old.proof_ended ≡ false) × (new.reader ≡ old.reader)

-- the run ended, and nothing is taken
abbrev pub IsLeft : Inputs → Inputs → Type 0
IsLeft old new = (old.run_ended ≡ true) × (new.framer ≡ old.framer)

abbrev pub GivesChunk : Inputs → Inputs → NextChunk → Type 0
GivesChunk old new (chunk.Chunk c) = (old.run_ended ≡ false) × TakesChunk old new c
GivesChunk old new chunk.End = IsLeft old new ⊎ (IsScriptAtEnd old × IsScriptAtEnd new × (length new.framer.bytes ≤ length old.framer.bytes))
GivesChunk old new chunk.More = (old.script_ended ≡ false) × (new.framer ≡ old.framer)

-- no command follows: the run ended, or the script is at its end
abbrev pub HasNoCommand : Inputs → Type 0
HasNoCommand i = (i.run_ended ≡ true) ⊎ IsScriptAtEnd i

-- a record is owed, or no command follows
abbrev pub IsAtLine : Inputs → CheckerValue → Type 0
IsAtLine i c = (is_idle c.judging.owed ≡ false) ⊎ HasNoCommand i

-- ---- how it goes on

-- so many verdicts came
abbrev pub AddsVerdicts : Option CheckerValue → Option CheckerValue → List Verdict → Type 0
AddsVerdicts before after vs = verdicts_by after ≡ verdicts_by before ++ vs

-- what is asked for is still to come, or a record is accepted, or all is judged
abbrev pub Stops : Inputs → Option CheckerValue → Progress → Type 0
Stops old before (progress.Script c) = Keeps old before c × AddsVerdicts before c.checker [] × (c.inputs.script_ended ≡ false)
Stops old before (progress.Proof c) = Keeps old before c × AddsVerdicts before c.checker [] × (c.inputs.proof_ended ≡ false)
Stops old before (progress.Shown c v) = Keeps old before c × AddsVerdicts before c.checker (v ∷ []) × IsShowing old before c × (held_by c.inputs < held_by old)
Stops old before (progress.Done j) = Concludes old before j × AddsVerdicts before j.checker []

abbrev pub Advances : Inputs → Option CheckerValue → Step → Type 0
Advances old before (step.On c) = Keeps old before c × AddsVerdicts before c.checker [] × (held_by c.inputs < held_by old)
Advances old before (step.Stop p) = Stops old before p

-- it goes on with these parts, and shows the verdict of the record that ended the check, if one did
abbrev pub GoesOn : Inputs → CheckerValue → Step → Type 0
GoesOn i c (step.On k) = (k.inputs ≡ i) × (k.checker ≡ Some c) × (shown_at c.judging ≡ [])
GoesOn i c (step.Stop (progress.Shown k v)) = (k.inputs ≡ i) × (k.checker ≡ Some c) × (shown_at c.judging ≡ v ∷ [])
GoesOn i c (step.Stop _) = ⊥
