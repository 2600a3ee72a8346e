-- What `drill` promises of its files: the script is drawn and stands in none of them, and of what is answered the summary is told.
use Rattle.std.specs.Prelude.{◌≡◌, ◌⊎◌, ℕ, zero, suc, List, [], ◌++◌, Some}
use Rattle.std.specs.Io.KnownBytes.{Appends}
use Rattle.smt_desk.specs.Faults.{Rose}
use Rattle.drill_script.specs.Scripts.{drill_script}
use Rattle.drill_script.specs.Summaries.{summary_of}
use Rattle.accepted_proof.specs.Searching.{Limits}
use Rattle.smt_check.specs.declared.status.Status.{Status}
use Rattle.smt_check.specs.declared.status.Status.TheVariants.{Done, Refused, Usage, ReadFault, WriteFault, NoMemory, TooLong}
use Rattle.smt_check.specs.Runs.{HasCause}
use Rattle.smt_run.specs.Beside.{IsWithoutFault}
use Rattle.smt_run.specs.Commands.{Files, Stream, Solves, files, stream, counts_of, IsEndOrWant}

-- ---- what is told

-- a front of a text was written, and a write failed
pub record IsCutOff (text : List ℕ) (old new : Stream) : Type 0 where
  pub told : List ℕ
  pub rest : List ℕ
  pub text_is : text ≡ told ++ rest
  pub added : Appends old.bytes new.bytes told
  pub rose : Rose old.faults new.faults

-- A text is written behind a run that came to its end, and the status stays; or a front of it, where its write failed; or nothing,
-- where memory was wanting.
abbrev pub IsWritten : List ℕ → Status → Status → Stream → Stream → Type 0
IsWritten text solved status old new =
    ((status ≡ solved) × Appends old.bytes new.bytes text)
    ⊎ (((status ≡ WriteFault) × IsCutOff text old new)
    ⊎ ((status ≡ NoMemory) × (old ≡ new)))

-- why a run ended that did not write what was to be kept: where memory was wanting for that, it was wanting for the run
abbrev pub status_unwritten : ℕ → Status
status_unwritten zero = WriteFault
status_unwritten (suc refused) = NoMemory

-- The summary is told of a run that came to its end, and of any other nothing. Memory was wanting so often for what is kept.
abbrev pub IsTold : List ℕ → ℕ → Status → Status → Stream → Stream → Type 0
IsTold summary refused Done status old new = IsWritten summary Done status old new
IsTold summary refused Refused status old new = IsWritten summary Refused status old new
IsTold summary refused Usage status old new = (status ≡ Usage) × (old ≡ new)
IsTold summary refused ReadFault status old new = (status ≡ ReadFault) × (old ≡ new)
IsTold summary refused WriteFault status old new = (status ≡ status_unwritten refused) × (old ≡ new)
IsTold summary refused NoMemory status old new = (status ≡ NoMemory) × (old ≡ new)
IsTold summary refused TooLong status old new = (status ≡ TooLong) × (old ≡ new)

-- ---- a drawn script

-- The drawn script is answered as `solve` answers a script that holds it, with all that is promised of that. What was answered is
-- kept, and its summary is told.
pub record IsAnswered (limits : Limits) (seed size : ℕ) (status : Status) (old new : Files) : Type 0 where
  pub solved : Status
  pub left : List ℕ
  pub answered : List ℕ
  pub refused : ℕ
  pub solves :
      Solves limits solved (files (stream (Some (drill_script seed size)) 0) (stream (Some []) 0) old.proof)
      (files (stream (Some left) 0) (stream (Some answered) refused) new.proof)
  pub told : IsTold (summary_of seed size answered) refused solved status old.answers new.answers

-- memory was wanting for the script
pub record IsUndrawn (status : Status) (old new : Files) : Type 0 where
  pub wanting : status ≡ NoMemory
  pub same : old ≡ new

-- A script is drawn and answered within the limits, its proof is written, and the summary of the answers is told.
pub record Drills (limits : Limits) (seed size : ℕ) (status : Status) (old new : Files) : Type 0 where
  pub answered : IsAnswered limits seed size status old new ⊎ IsUndrawn status old new
  -- Without a fault the script is answered whole and the summary is told, but for want of memory.
  pub always : IsWithoutFault (counts_of old) (counts_of new) → IsEndOrWant status
  -- A fault is told only where a count rose.
  pub cause : HasCause (counts_of old) (counts_of new) status
