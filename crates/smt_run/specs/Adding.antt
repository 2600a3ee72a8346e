-- What a run adds to the answers and to the proof, one turn after another.
use Rattle.std.specs.Prelude.{◌≡◌, ◌⊎◌, ℕ, ◌<◌, Bool, false, ◌||◌, List, [], ◌∷◌, ◌++◌, length, map, Option, Some, None}
use Rattle.std.specs.List.{flat_map}
use Rattle.std.specs.Io.KnownBytes.{Appends}
use Rattle.smt_text.specs.declared.chunk.Chunk.{Chunk}
use Rattle.smt_text.specs.Framing.{Held, first_chunk}
use Rattle.smt_text.specs.Script.{Begins}
use Rattle.script_state.specs.States.{StateValue, no_state}
use Rattle.proof_log.specs.declared.entry.Entry.{Entry}
use Rattle.proof_text.specs.declared.record.Record.{Record}
use Rattle.proof_text.specs.Lines.{line_text}
use Rattle.accepted_proof.specs.Searching.{Limits}
use Rattle.accepted_proof.specs.Turns.{Part, Turn, AreTurns, part_lines, state_after}
use Rattle.accepted_proof.specs.Answers.{answers_from, last_shown}
use Rattle.accepted_proof.specs.Accepted.{AreRead, AreAll, EndLast, IsFront, has_ended, has_error}
use Rattle.proof_file.specs.Places.{FileValue, no_file}
use Rattle.proof_file.specs.Held.{file_in}
use Rattle.proof_file.specs.Trimmed.{IsTrimmed}
use Rattle.trimmed_proofs.specs.Laws.{HaveTakenFirst}
use Rattle.smt_session.specs.Sessions.{SessionValue}
use Rattle.smt_session.specs.Thorough.{AreThorough}
use Rattle.smt_check.specs.declared.status.Status.{Status}
use Rattle.smt_run.specs.Solving.{untaken}
use Rattle.smt_run.specs.declared.answering.Answered.{Answered}

-- ---- turns

-- the state, the log, the proof file, and the record of the last check at one moment of a session, and the limits of its checks
pub record Moment : Type 0 where
  pub state : StateValue
  pub log : List Entry
  pub file : FileValue
  pub shown : Option Record
  pub limits : Limits

abbrev pub moment_of : SessionValue → Moment
moment_of s = record { state = s.state; log = s.log.entries; file = file_in s.file; shown = s.shown; limits = s.limits }

-- before the first command
abbrev pub opening : Limits → Moment
opening limits = record { state = no_state; log = []; file = no_file; shown = None; limits = limits }

-- a turn, the part that is written for it, and the file behind that
pub record Filed : Type 0 where
  pub turn : Turn
  pub part : Part
  pub file : FileValue

abbrev pub turns_in : List Filed → List Turn
turns_in done = map (λ (d : Filed). d.turn) done

abbrev pub parts_in : List Filed → List Part
parts_in done = map (λ (d : Filed). d.part) done

-- after a turn
abbrev pub behind : Moment → Filed → Moment
behind m d = record { state = state_after m.state d.turn; log = m.log ++ d.turn.steps; file = d.file; shown = last_shown m.shown d.turn.shown; limits = m.limits }

-- after the turns
abbrev pub after : Moment → List Filed → Moment
after m [] = m
after m (d ∷ ds) = after (behind m d) ds

-- each part is what the file gets for its turn
abbrev pub AreFiled : Moment → List Filed → Type 0
AreFiled m [] = Unit {0}
AreFiled m (d ∷ ds) = IsTrimmed m.state m.log m.file d.file d.turn d.part × AreFiled (behind m d) ds

-- the texts of the turns that follow
abbrev pub answers_at : Moment → List Filed → List ℕ
answers_at m done = answers_from m.state m.log m.shown (turns_in done)

-- The chunks are the commands of these turns, which may follow one after the other, and only the last ends the run. Their parts are
-- what the file gets for them.
pub record Follow (m : Moment) (chunks : List Chunk) (done : List Filed) : Type 0 where
  pub read : AreRead chunks (turns_in done)
  pub last : EndLast (turns_in done)
  pub run : AreTurns m.limits m.state m.log (turns_in done)
  pub filed : AreFiled m done
  pub taken : HaveTakenFirst m.log (turns_in done)

-- ---- what is added

-- the told bytes of the answers and of the proof at one moment
pub record Streams : Type 0 where
  pub answers : Option (List ℕ)
  pub proof : Option (List ℕ)

abbrev pub streams : Option (List ℕ) → Option (List ℕ) → Streams
streams a p = record { answers = a; proof = p }

-- the lines of the parts
abbrev pub lines_of : List Filed → List ℕ
lines_of done = flat_map line_text (flat_map part_lines (parts_in done))

-- the answers to the turns and the lines of their parts are added, and behind them begun and more; no check made a term, and all
-- cubes of one that is not known were searched
pub record Adds (m : Moment) (from to : Streams) (chunks : List Chunk) (done : List Filed) (begun more : List ℕ) : Type 0 where
  pub follow : Follow m chunks done
  pub answers : Appends from.answers to.answers (answers_at m done ++ begun)
  pub proof : Appends from.proof to.proof (lines_of done ++ more)
  pub thorough : AreThorough m.limits m.state m.log (turns_in done)

-- the chunks are answered whole
pub record Advances (m : Moment) (refused : Bool) (new : Answered) (from to : Streams) (chunks : List Chunk) : Type 0 where
  pub done : List Filed
  pub adds : Adds m from to chunks done [] []
  pub after_is : moment_of new.session ≡ after m done
  pub refused_is : new.refused ≡ (refused || has_error (turns_in done))
  pub ended_is : new.ended ≡ has_ended (turns_in done)

-- nothing was written of what comes next
abbrev pub IsNothing : List ℕ → List ℕ → Type 0
IsNothing begun more = (begun ≡ []) × (more ≡ [])

-- Of what comes next one command was begun: a front of its lines was written, or all of them and a front of its answer.
pub record IsBegunOf (coming : List Filed) (begun rest more left : List ℕ) : Type 0 where
  pub command : Filed
  pub one : coming ≡ command ∷ []
  pub unfinished : ((begun ≡ []) × (0 < length left)) ⊎ ((left ≡ []) × (0 < length rest))

-- The chunks are answered whole and do not end the run, and behind them stands what was begun of what comes next.
pub record Breaks (m : Moment) (from to : Streams) (chunks next : List Chunk) : Type 0 where
  pub done : List Filed
  pub begun : List ℕ
  pub more : List ℕ
  pub adds : Adds m from to chunks done begun more
  pub going : has_ended (turns_in done) ≡ false
  pub coming : List Filed
  pub rest : List ℕ
  pub left : List ℕ
  pub follow : Follow (after m done) next coming
  pub answer : answers_at (after m done) coming ≡ begun ++ rest
  pub lines : lines_of coming ≡ more ++ left
  pub unfinished : IsNothing begun more ⊎ IsBegunOf coming begun rest more left

-- a stop at these chunks, of which none is answered whole
pub record BreaksAt (m : Moment) (from to : Streams) (chunks : List Chunk) : Type 0 where
  pub next : List Chunk
  pub next_is : (next ≡ []) ⊎ (next ≡ chunks)
  pub breaks : Breaks m from to [] next

-- ---- within what a framer holds

abbrev pub with_piece : Held → List ℕ → Held
with_piece h piece = record { line = h.line; bytes = h.bytes ++ piece }

-- the whole chunks that are held are answered, all of them or those up to the one that ends the run
pub record AdvancesWithin (held rest : Held) (m : Moment) (refused : Bool) (new : Answered) (from to : Streams) : Type 0 where
  pub chunks : List Chunk
  pub begins : Begins held chunks rest
  pub ends : new.ended ≡ false → first_chunk rest ≡ None
  pub advances : Advances m refused new from to chunks

abbrev pub IsFrontOf : Held → List Chunk → Type 0
IsFrontOf held chunks = (rest : Held) × Begins held chunks rest

pub record BreaksWithin (held : Held) (m : Moment) (from to : Streams) : Type 0 where
  pub chunks : List Chunk
  pub next : List Chunk
  pub front : IsFrontOf held chunks
  pub all : IsFrontOf held (chunks ++ next)
  pub breaks : Breaks m from to chunks next

-- the chunks that the end of the script closes are answered
pub record AddsLast (m : Moment) (refused : Bool) (from to : Streams) (chunks : List Chunk) (now : Bool) : Type 0 where
  pub done : List Filed
  pub adds : Adds m from to chunks done [] []
  pub refused_is : now ≡ (refused || has_error (turns_in done))

-- ---- within a script

-- the whole script is answered, or what stands up to the command that ends the run
pub record AnswersAll (limits : Limits) (text : List ℕ) (from to : Streams) (refused : Bool) : Type 0 where
  pub chunks : List Chunk
  pub done : List Filed
  pub cut : AreAll text chunks (turns_in done)
  pub adds : Adds (opening limits) from to chunks done [] []
  pub refused_is : refused ≡ has_error (turns_in done)

-- a front of the script is answered
pub record AnswersFront (limits : Limits) (text : List ℕ) (from to : Streams) : Type 0 where
  pub chunks : List Chunk
  pub next : List Chunk
  pub front : IsFront text chunks
  pub all : IsFront text (chunks ++ next)
  pub breaks : Breaks (opening limits) from to chunks next

-- Before the read that failed each whole chunk of what was read is answered, and nothing else.
pub record AnswersRead (limits : Limits) (status : Status) (left : Option (List ℕ)) (text : List ℕ) (from to : Streams) : Type 0 where
  pub read : List ℕ
  pub over : List ℕ
  pub rest : List ℕ
  pub left_is : left ≡ Some rest
  pub text_is : text ≡ read ++ (over ++ rest)
  pub size : length over ≡ untaken status
  pub held : Held
  pub chunks : List Chunk
  pub whole : Begins (record { line = 1; bytes = read }) chunks held
  pub no_more : first_chunk held ≡ None
  pub done : List Filed
  pub adds : Adds (opening limits) from to chunks done [] []
  pub going : has_ended (turns_in done) ≡ false
