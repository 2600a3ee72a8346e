-- What is judged of a script and a proof, both as texts: that the proof is accepted, or its first bad line.
use Rattle.std.specs.Prelude.{◌≡◌, ◌≢◌, ◌⊎◌, ℕ, Bool, true, false, ◌||◌, if◌then◌else◌, List, [], ◌∷◌, ◌++◌, length, Option, Some, None, option_to_list}
use Rattle.std.specs.List.{list_any, flat_map}
use Rattle.std.specs.Option.{option_map}
use Rattle.smt_text.specs.declared.chunk.Chunk.{Chunk}
use Rattle.smt_text.specs.Framing.{Held}
use Rattle.smt_text.specs.Script.{AreCut}
use Rattle.script_state.specs.declared.answer.Verdict.{Verdict}
use Rattle.script_state.specs.Steps.{ends}
use Rattle.proof_text.specs.declared.line.Format.{Format}
use Rattle.proof_text.specs.declared.line.Line.{Line}
use Rattle.proof_text.specs.Lines.{line_text, IsLine}
use Rattle.proof_text.specs.Held.{without_feed}
use Rattle.accepted_proof.specs.declared.refusal.Refusal.{Refusal}
use Rattle.accepted_proof.specs.Searching.{Limits}
use Rattle.accepted_proof.specs.Turns.{Turn, verdict_of}
use Rattle.accepted_proof.specs.Judged.{Judging, judging_from, is_idle, reach, ending, Moves, IsHeader, bad_header, ReadEach}
use Rattle.proof_checker.specs.Checkers.{Says}

-- ---- the lines of a proof

-- the text in front of a line feed is that of this line, or of none
abbrev pub IsLineOf : List ℕ → Option Line → Type 0
IsLineOf text (Some l) = IsLine l × (text ++ 10 ∷ [] ≡ line_text l)
IsLineOf text None = (l : Line) → IsLine l → text ++ 10 ∷ [] ≡ line_text l → ⊥

-- the first line, up to its line feed, and what is behind it
pub record IsFirstLine (text : List ℕ) (line : Option Line) (rest : List ℕ) : Type 0 where
  pub before : List ℕ
  pub cut : text ≡ before ++ 10 ∷ rest
  pub first : without_feed before ≡ true
  pub line_is : IsLineOf before line

-- a last line that is not ended
pub record IsUnended (text : List ℕ) : Type 0 where
  pub some : text ≢ []
  pub without : without_feed text ≡ true

-- The lines of a text. One that is not ended is no line of a proof.
abbrev pub AreLines : List ℕ → List (Option Line) → Type 0
AreLines text [] = text ≡ []
AreLines text (l ∷ ls) = ((rest : List ℕ) × IsFirstLine text l rest × AreLines rest ls) ⊎ (IsUnended text × (l ≡ None) × (ls ≡ []))

-- ---- verdicts

-- the verdict of the record that ended a check, where it is ended
abbrev pub shown_at : Judging → List Verdict
shown_at j = if is_idle j.owed then option_to_list j.state.standing else []

-- what is judged, as `Judged` says, and the verdicts of the records that are accepted
abbrev pub Tells : Judging → List Says → List (Option Line) → List Verdict → Option Refusal → Type 0
Tells j cs [] vs o = (vs ≡ []) × (o ≡ ending (reach j cs).0.owed (reach j cs).0.line)
Tells j cs (l ∷ ls) vs o = (k : Judging) × (rest : List Verdict) × Moves (reach j cs).0 l k × (vs ≡ shown_at k ++ rest) × Tells k (reach j cs).1 ls rest o

-- the same of all lines of a proof, as `JudgedProof` says
abbrev pub TellsProof : List Says → List (Option Line) → List Verdict → Option Refusal → Type 0
TellsProof cs [] vs o = (vs ≡ []) × (o ≡ Some bad_header)
TellsProof cs (l ∷ ls) vs o = ((format : Format) × (limits : Limits) × IsHeader l format limits × Tells (judging_from format limits) cs ls vs o) ⊎ (((format : Format) (limits : Limits) → IsHeader l format limits → ⊥) × (vs ≡ []) × (o ≡ Some bad_header))

-- ---- texts

-- The first commands of the script read so, and this is told of the lines, whatever the commands behind them read as. Where
-- there is no bad line, there are none behind them, or the run ended: by one of them, or before.
pub record IsTold (Told : List Says → List (Option Line) → List Verdict → Option Refusal → Type 0) (ended : Bool) (script : Held) (proof : List ℕ) (verdicts : List Verdict) (refusal : Option Refusal) : Type 0 where
  pub chunks : List Chunk
  pub behind : List Chunk
  pub says : List Says
  pub lines : List (Option Line)
  pub cut : AreCut script (chunks ++ behind)
  pub read : ReadEach chunks says
  pub split : AreLines proof lines
  pub told : (rest : List Says) → length rest ≡ length behind → Told (says ++ rest) lines verdicts refusal
  pub whole : refusal ≡ None → (behind ≡ []) ⊎ ((ended || list_any ends says) ≡ true)

-- What is judged of the proof of a script: the verdicts of the records that are accepted, and the first bad line, if there is one.
abbrev pub IsJudged : List ℕ → List ℕ → List Verdict → Option Refusal → Type 0
IsJudged script proof verdicts refusal = IsTold TellsProof false (record { line = 1; bytes = script }) proof verdicts refusal

-- the proof is one of the script, and its records show these verdicts
abbrev pub IsAccepted : List ℕ → List ℕ → List Verdict → Type 0
IsAccepted script proof verdicts = IsJudged script proof verdicts None

-- The first commands of the script read so, and the first lines of the proof are these. With those commands alone these lines
-- are accepted, and this is told of them, whatever stands behind in either text.
pub record IsToldSoFar (Told : List Says → List (Option Line) → List Verdict → Option Refusal → Type 0) (script : Held) (proof : List ℕ) (verdicts : List Verdict) : Type 0 where
  pub chunks : List Chunk
  pub behind : List Chunk
  pub says : List Says
  pub lines : List (Option Line)
  pub later : List (Option Line)
  pub cut : AreCut script (chunks ++ behind)
  pub read : ReadEach chunks says
  pub split : AreLines proof (lines ++ later)
  pub told : Told says lines verdicts None

-- a front of the proof is one of a front of the script, and its records show these verdicts
abbrev pub IsAcceptedSoFar : List ℕ → List ℕ → List Verdict → Type 0
IsAcceptedSoFar script proof verdicts = IsToldSoFar TellsProof (record { line = 1; bytes = script }) proof verdicts

-- the first bad line and its rule, and the verdicts of the records before it
abbrev pub IsRefused : List ℕ → List ℕ → List Verdict → Refusal → Type 0
IsRefused script proof verdicts refusal = IsJudged script proof verdicts (Some refusal)

-- ---- turns

-- the verdicts of the checks
abbrev pub verdicts_of : List Turn → List Verdict
verdicts_of turns = flat_map (λ (t : Turn). option_to_list (option_map verdict_of t.shown)) turns
