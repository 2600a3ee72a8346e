-- What stands in the answers and in the proof of a run.
use Rattle.std.specs.Prelude.{◌≡◌, ◌⊎◌, ℕ, ◌<◌, ◌≤◌, true, false, if◌then◌else◌, List, [], ◌∷◌, ◌++◌, map, Option, Some, None, IfSome, length}
use Rattle.std.specs.List.{flat_map}
use Rattle.std.specs.Io.KnownBytes.{IsAtEnd}
use Rattle.smt_desk.specs.Faults.{Rose}
use Rattle.smt_text.specs.declared.chunk.Chunk.{Chunk}
use Rattle.smt_text.specs.Framing.{Held, first_chunk}
use Rattle.smt_text.specs.Script.{Begins, AreChunks}
use Rattle.script_state.specs.States.{no_state}
use Rattle.accepted_proof.specs.Searching.{Limits}
use Rattle.proof_text.specs.declared.line.Format.TheVariants.{Two}
use Rattle.proof_text.specs.Lines.{line_text}
use Rattle.accepted_proof.specs.Turns.{Part, Turn, AreParts, AreTurns, part_lines, turn_of}
use Rattle.accepted_proof.specs.Right.{AreRight, ArePrinted}
use Rattle.accepted_proof.specs.Answers.{answers_of, header_of, written_of}
use Rattle.accepted_proof.specs.Accepted.{AreRead, EndLast, IsFront, StandsBeside, IsWhole, has_ended, has_error}
use Rattle.proof_checker.specs.Checked.{IsAccepted, verdicts_of}
use Rattle.proof_file.specs.Places.{no_file}
use Rattle.proof_file.specs.Trimmed.{AreTrimmed}
use Rattle.trimmed_proofs.specs.Laws.{TellsOf}
use Rattle.smt_session.specs.Thorough.{AreThorough}
use Rattle.smt_check.specs.declared.status.Status.{Status}
use Rattle.smt_check.specs.declared.status.Status.TheVariants.{Done, Refused}
use Rattle.smt_check.specs.Runs.{Counts, input_limit}
use Rattle.smt_run.specs.Solving.{untaken}

-- Where the script, the answers and the proof were told before, there are bytes that were added to the answers and to the
-- proof, such that P.
abbrev pub Told : Option (List ℕ) → Option (List ℕ) → Option (List ℕ) → Option (List ℕ) → Option (List ℕ) → (List ℕ → List ℕ → List ℕ → Type 0) → Type 0
Told script answers answers' proof proof' P =
    IfSome script (λ text. IfSome answers (λ a. IfSome proof (λ p.
    (answered : List ℕ) × (proved : List ℕ) × (answers' ≡ Some (a ++ answered)) × (proof' ≡ Some (p ++ proved)) × P text answered proved)))

-- nothing was answered, and the proof has a front of its header alone
pub record IsUnbegun (limits : Limits) (answered proved : List ℕ) : Type 0 where
  pub answers : answered ≡ []
  pub rest : List ℕ
  pub header : header_of Two limits ≡ proved ++ rest

-- These turns were searched, and may follow one after the other. The parts are trimmed of them: of the lemmas and chains of a check
-- they have those that its record needs, and they tell of the turns, with the same commands, answers and verdicts. No check made a
-- term, and an `unknown` stands beside the diary of a cube on which the budget was spent, and its other cubes were searched too. What
-- is printed of the check that stands is right: models, values, cores, and assumptions that cannot hold.
pub record AreSearchedFor (limits : Limits) (turns : List Turn) (parts : List Part) : Type 0 where
  pub run : AreTurns limits no_state [] turns
  pub trims : AreTrimmed no_state [] no_file turns parts
  pub tells : TellsOf limits turns parts
  pub thorough : AreThorough limits no_state [] turns
  pub right : AreRight no_state turns
  pub printed : ArePrinted no_state [] None turns

-- The script cut behind these chunks, and the proof cut behind these parts, are accepted by a check.
pub record IsAcceptedCut (limits : Limits) (text : List ℕ) (chunks : List Chunk) (parts : List Part) : Type 0 where
  pub cut : List ℕ
  pub rest : List ℕ
  pub text_is : text ≡ cut ++ rest
  pub whole : AreChunks cut chunks
  pub checked : IsAccepted cut (written_of Two limits parts) (verdicts_of (map turn_of parts))

-- Behind the answers and the parts of these commands stands what was begun of the next one: a front of its part and nothing of
-- its answer, or all of its part, with which a check accepts the proof too, and a front of its answer.
pub record IsBegunBehind (limits : Limits) (text : List ℕ) (chunks : List Chunk) (parts : List Part) (begun more : List ℕ) : Type 0 where
  pub next : Chunk
  pub part : Part
  pub front : IsFront text (chunks ++ next ∷ [])
  pub read : AreRead (chunks ++ next ∷ []) (map turn_of (parts ++ part ∷ []))
  pub last : EndLast (map turn_of (parts ++ part ∷ []))
  pub run : AreParts Two limits no_state [] [] (parts ++ part ∷ [])
  pub left : List ℕ
  pub lines : flat_map line_text (part_lines part) ≡ more ++ left
  pub cut : ((begun ≡ []) × (0 < length left))
      ⊎ ((left ≡ []) × IsAcceptedCut limits text (chunks ++ next ∷ []) (parts ++ part ∷ []))

-- The answers that were written whole stand beside a proof that is accepted to the last of their checks. Cut behind its last
-- whole record, a check accepts it with the script cut there: behind these answers stands at most one record more, and none
-- that is of another command. The answers are right: each `sat` has a model, and where there is an `unsat` there is none. They
-- were searched for, and the proof has what their records need.
pub record IsBesideProof (limits : Limits) (text answered proved : List ℕ) : Type 0 where
  pub beside : StandsBeside limits text answered proved
  pub checked : IsAcceptedCut limits text beside.chunks beside.parts
  pub behind : ((beside.begun ≡ []) × (beside.more ≡ []))
      ⊎ IsBegunBehind limits text beside.chunks beside.parts beside.begun beside.more
  pub right : AreRight no_state (map turn_of beside.parts)
  pub turns : List Turn
  pub searched : AreSearchedFor limits turns beside.parts

abbrev pub IsBeside : Limits → List ℕ → List ℕ → List ℕ → Type 0
IsBeside limits text answered proved = IsUnbegun limits answered proved ⊎ IsBesideProof limits text answered proved

-- The answers are those to all that is read of the script, the proof is accepted, a check of both texts accepts it, the
-- answers are right, they were searched for, and the status tells whether an error is among them.
pub record IsAllAnswered (limits : Limits) (status : Status) (text answered proved : List ℕ) : Type 0 where
  pub parts : List Part
  pub whole : IsWhole limits text answered proved parts
  pub checked : IsAccepted text proved (verdicts_of (map turn_of parts))
  pub right : AreRight no_state (map turn_of parts)
  pub turns : List Turn
  pub searched : AreSearchedFor limits turns parts
  pub status_is : status ≡ (if has_error (map turn_of parts) then Refused else Done)

-- the answers are a front of those to the first commands of the script
pub record IsPrefix (limits : Limits) (text answered : List ℕ) : Type 0 where
  pub chunks : List Chunk
  pub turns : List Turn
  pub rest : List ℕ
  pub front : IsFront text chunks
  pub read : AreRead chunks turns
  pub last : EndLast turns
  pub run : AreTurns limits no_state [] turns
  pub answers : answers_of turns ≡ answered ++ rest

-- Where a read of the script failed, or it is too long, each command that is whole in what was read before is answered, and
-- nothing else; the proof has its header and the parts of these commands. What was read before is all that is gone from the
-- script, but for the byte that made it too long.
pub record IsAnsweredToRead (limits : Limits) (status : Status) (left : Option (List ℕ)) (text answered proved : List ℕ) : Type 0 where
  pub read : List ℕ
  pub over : List ℕ
  pub rest : List ℕ
  pub left_is : left ≡ Some rest
  pub text_is : text ≡ read ++ (over ++ rest)
  pub size : length over ≡ untaken status
  pub held : Held
  pub chunks : List Chunk
  pub whole : Begins (record { line = 1; bytes = read }) chunks held
  pub no_more : first_chunk held ≡ None
  pub parts : List Part
  pub commands : AreRead chunks (map turn_of parts)
  pub going : has_ended (map turn_of parts) ≡ false
  pub run : AreParts Two limits no_state [] [] parts
  pub turns : List Turn
  pub searched : AreSearchedFor limits turns parts
  pub answers : answered ≡ answers_of (map turn_of parts)
  pub proof : proved ≡ written_of Two limits parts

-- the last of the first commands of the script ends the run, and none before it does
pub record IsEnded (text : List ℕ) : Type 0 where
  pub chunks : List Chunk
  pub turns : List Turn
  pub front : IsFront text chunks
  pub read : AreRead chunks turns
  pub last : EndLast turns
  pub ended : has_ended turns ≡ true

-- the script was read to its end, or a command ended the run
abbrev pub IsReadOut : Option (List ℕ) → Option (List ℕ) → Type 0
IsReadOut old new = IsAtEnd new ⊎ IfSome old IsEnded

-- a script that is told, and not too long
pub record IsShort (script : Option (List ℕ)) : Type 0 where
  pub text : List ℕ
  pub told : script ≡ Some text
  pub short : length text ≤ input_limit

-- no count of faults rose
pub record IsWithoutFault (old new : Counts) : Type 0 where
  pub script : ¬ (Rose old.script new.script)
  pub answers : ¬ (Rose old.answers new.answers)
  pub proof : ¬ (Rose old.proof new.proof)
