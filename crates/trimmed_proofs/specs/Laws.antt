-- What a trimmed proof file does to accepted turns.
use Rattle.std.specs.Prelude.{◌≡◌, suc, List, [], ◌∷◌, ◌++◌, length, map, Option, option_map}
use Rattle.script_state.specs.declared.answer.Answer.{Answer}
use Rattle.script_state.specs.declared.answer.Verdict.{Verdict}
use Rattle.script_state.specs.States.{no_state}
use Rattle.proof_log.specs.declared.entry.Entry.{Entry}
use Rattle.proof_text.specs.declared.line.Format.TheVariants.{Two}
use Rattle.accepted_proof.specs.Searching.{Limits}
use Rattle.accepted_proof.specs.Turns.{Part, Turn, AreParts, AreTurns, turn_of, verdict_of}
use Rattle.accepted_proof.specs.Accepted.{has_ended, has_error, readings_of}
use Rattle.accepted_proof.specs.Answers.{answers_of}
use Rattle.proof_file.specs.Equalities.{HasTakenFirst}
use Rattle.proof_file.specs.Places.{no_file}
use Rattle.proof_file.specs.Trimmed.{AreTrimmed}

-- in the record of each turn equalities are taken before what is put behind them, and a diary starts behind the log of the turns before
abbrev pub HaveTakenFirst : List Entry → List Turn → Type 0
HaveTakenFirst log [] = Unit {0}
HaveTakenFirst log (t ∷ ts) = HasTakenFirst (suc (length log)) (log ++ t.steps) t.shown × HaveTakenFirst (log ++ t.steps) ts

-- the answer to each command, and the verdict of its check
abbrev pub shown_of : List Turn → List (Answer × Option Verdict)
shown_of turns = map (λ (t : Turn). (t.answer, option_map verdict_of t.shown)) turns

-- The parts are accepted in the second format, and tell of the turns: the same commands, answers and verdicts.
pub record TellsOf (limits : Limits) (turns : List Turn) (parts : List Part) : Type 0 where
  pub run : AreParts Two limits no_state [] [] parts
  pub answers : answers_of (map turn_of parts) ≡ answers_of turns
  pub readings : readings_of (map turn_of parts) ≡ readings_of turns
  pub shown : shown_of (map turn_of parts) ≡ shown_of turns
  pub ended : has_ended (map turn_of parts) ≡ has_ended turns
  pub error : has_error (map turn_of parts) ≡ has_error turns

-- what a trimmed file has for turns that may follow is accepted, and tells of them
abbrev pub TrimmedLaw : Type 0
TrimmedLaw = (limits : Limits) (turns : List Turn) (parts : List Part) → AreTurns limits no_state [] turns → HaveTakenFirst [] turns → AreTrimmed no_state [] no_file turns parts → TellsOf limits turns parts
