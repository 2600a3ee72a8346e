-- Proofs of scripts (a script is a sequence of commands: SMT-LIB 2.6, section 3.9), and what stands beside answers.
use Rattle.std.specs.Prelude.{◌≡◌, ◌⊎◌, ℕ, ◌<◌, Bool, true, List, [], ◌∷◌, ◌++◌, length, map}
use Rattle.std.specs.List.{list_any}
use Rattle.smt_text.specs.declared.chunk.Chunk.{Chunk}
use Rattle.smt_text.specs.Framing.{Held}
use Rattle.smt_text.specs.Script.{AreChunks, Begins}
use Rattle.script_state.specs.Readings.{Reading, ReadsAs}
use Rattle.script_state.specs.States.{no_state}
use Rattle.script_state.specs.Steps.{ends}
use Rattle.accepted_proof.specs.Searching.{Limits, AreLimits}
use Rattle.proof_text.specs.declared.line.Format.{Format}
use Rattle.proof_text.specs.declared.line.Format.TheVariants.{Two}
use Rattle.accepted_proof.specs.Turns.{Turn, Part, AreParts, turn_of}
use Rattle.accepted_proof.specs.Answers.{answers_of, is_refused, written_of}

-- each chunk is the command of a turn
abbrev pub AreRead : List Chunk → List Turn → Type 0
AreRead [] [] = Unit {0}
AreRead [] (t ∷ ts) = ⊥
AreRead (c ∷ cs) [] = ⊥
AreRead (c ∷ cs) (t ∷ ts) = (t.line ≡ c.line) × ReadsAs c t.says × AreRead cs ts

-- the line and the reading of each command
abbrev pub readings_of : List Turn → List (ℕ × Reading)
readings_of turns = map (λ (t : Turn). (t.line, t.says)) turns

-- the first chunks of a text
abbrev pub IsFront : List ℕ → List Chunk → Type 0
IsFront text chunks = ((rest : Held) × Begins (record { line = 1; bytes = text }) chunks rest) ⊎ AreChunks text chunks

-- no command but the last ends the run
abbrev pub EndLast : List Turn → Type 0
EndLast [] = Unit {0}
EndLast (t ∷ ts) = (ends t.says ≡ true → ts ≡ []) × EndLast ts

-- whether a command ends the run
abbrev pub has_ended : List Turn → Bool
has_ended turns = list_any (λ (t : Turn). ends t.says) turns

-- the chunks are all that is read of the script: all of it, or what stands up to the command that ends the run
abbrev pub AreAll : List ℕ → List Chunk → List Turn → Type 0
AreAll script chunks turns = AreChunks script chunks ⊎ ((has_ended turns ≡ true) × IsFront script chunks)

-- The proof is one of the script in either format: its header, and for each check the lines of valid steps, between which the
-- second format may delete places, and of a record, and nothing more.
pub record Accepted (limits : Limits) (script proof : List ℕ) (turns : List Turn) : Type 0 where
  pub allowed : AreLimits limits
  pub chunks : List Chunk
  pub cut : AreAll script chunks turns
  pub read : AreRead chunks turns
  pub last : EndLast turns
  pub format : Format
  pub parts : List Part
  pub turns_are : map turn_of parts ≡ turns
  pub run : AreParts format limits no_state [] [] parts
  pub lines : proof ≡ written_of format limits parts

-- The proof begins with the accepted proof of the first commands of the script, whatever stands behind in either text.
pub record AcceptedSoFar (limits : Limits) (script proof : List ℕ) (turns : List Turn) : Type 0 where
  pub allowed : AreLimits limits
  pub chunks : List Chunk
  pub rest : List ℕ
  pub front : IsFront script chunks
  pub read : AreRead chunks turns
  pub last : EndLast turns
  pub format : Format
  pub parts : List Part
  pub turns_are : map turn_of parts ≡ turns
  pub run : AreParts format limits no_state [] [] parts
  pub lines : proof ≡ written_of format limits parts ++ rest

-- a front of the answer to the next command of the script, which is not the whole answer
pub record IsBegun (limits : Limits) (script : List ℕ) (chunks : List Chunk) (parts : List Part) (begun : List ℕ) : Type 0 where
  pub next : Chunk
  pub part : Part
  pub rest : List ℕ
  pub front : IsFront script (chunks ++ next ∷ [])
  pub read : AreRead (chunks ++ next ∷ []) (map turn_of (parts ++ part ∷ []))
  pub last : EndLast (map turn_of (parts ++ part ∷ []))
  pub run : AreParts Two limits no_state [] [] (parts ++ part ∷ [])
  pub texts : answers_of (map turn_of (parts ++ part ∷ [])) ≡ answers_of (map turn_of parts) ++ begun ++ rest
  pub unfinished : 0 < length rest

-- The answers that were written whole are those of the first commands of the script, and the proof, which is of the second
-- format, is accepted to the last of their checks.
pub record StandsBeside (limits : Limits) (script answers proof : List ℕ) : Type 0 where
  pub allowed : AreLimits limits
  pub chunks : List Chunk
  pub parts : List Part
  pub more : List ℕ
  pub begun : List ℕ
  pub front : IsFront script chunks
  pub read : AreRead chunks (map turn_of parts)
  pub last : EndLast (map turn_of parts)
  pub run : AreParts Two limits no_state [] [] parts
  pub lines : proof ≡ written_of Two limits parts ++ more
  pub texts : answers ≡ answers_of (map turn_of parts) ++ begun
  pub unfinished : (begun ≡ []) ⊎ IsBegun limits script chunks parts begun

-- the answers are those to the whole script, and the proof is accepted, and has these parts
pub record IsWhole (limits : Limits) (script answers proof : List ℕ) (parts : List Part) : Type 0 where
  pub accepted : Accepted limits script proof (map turn_of parts)
  pub run : AreParts Two limits no_state [] [] parts
  pub lines : proof ≡ written_of Two limits parts
  pub texts : answers ≡ answers_of (map turn_of parts)

-- whether an error is among the answers
abbrev pub has_error : List Turn → Bool
has_error turns = list_any is_refused turns
