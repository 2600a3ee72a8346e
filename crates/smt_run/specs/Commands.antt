-- What each command of the program promises of its files, and which status tells what.
use Rattle.std.specs.Prelude.{◌≡◌, ◌≢◌, ◌⊎◌, ℕ, ◌+◌, List, Option}
use Rattle.smt_check.specs.declared.status.Status.{Status}
use Rattle.smt_check.specs.declared.status.Status.TheVariants.{Done, Refused, WriteFault, NoMemory, TooLong}
use Rattle.smt_check.specs.Runs.{AddsTo, ReadsBytes, ReadsWithin, IsLater, HasCause, Counts, input_limit}
use Rattle.smt_check.specs.Checks.{ReadsForStatus, HasCheckCause, ToldOf, IsEndOfCheck, IsFrontOfCheck, IsRightlyAccepted}
use Rattle.accepted_proof.specs.Searching.{Limits}
use Rattle.accepted_proof.specs.Turns.{Turn}
use Rattle.proof_text.specs.declared.line.Format.TheVariants.{Two}
use Rattle.accepted_proof.specs.Answers.{header_of}
use Rattle.accepted_proof.specs.Accepted.{Accepted}
use Rattle.smt_run.specs.Solving.{BeginsWith, FailsToRead}
use Rattle.smt_run.specs.Beside.{Told, IsBeside, IsAllAnswered, IsPrefix, IsAnsweredToRead, IsReadOut, IsShort, IsWithoutFault}

-- ---- files

-- a source or a sink at one moment: what is left in it or stands in it, where it tells that, and how many of its calls failed
pub record Stream : Type 0 where
  pub bytes : Option (List ℕ)
  pub faults : ℕ

abbrev pub stream : Option (List ℕ) → ℕ → Stream
stream bytes faults = record { bytes = bytes; faults = faults }

-- the files of a command at one moment: the script that it reads, the answers that it writes, and the proof that it writes or reads
pub record Files : Type 0 where
  pub script : Stream
  pub answers : Stream
  pub proof : Stream

abbrev pub files : Stream → Stream → Stream → Files
files s a p = record { script = s; answers = a; proof = p }

abbrev pub counts_of : Files → Counts
counts_of f = record { script = f.script.faults; answers = f.answers.faults; proof = f.proof.faults }

-- what was written stays in the two sinks, and no count fell
pub record AddsToFiles (old new : Files) : Type 0 where
  pub answers : AddsTo old.answers.bytes new.answers.bytes
  pub proof : AddsTo old.proof.bytes new.proof.bytes
  pub later : IsLater (counts_of old) (counts_of new)

-- the run came to its end
abbrev pub IsEnd : Status → Type 0
IsEnd s = (s ≡ Done) ⊎ (s ≡ Refused)

-- it came to its end, or memory was wanting
abbrev pub IsEndOrWant : Status → Type 0
IsEndOrWant s = (s ≡ Done) ⊎ ((s ≡ Refused) ⊎ (s ≡ NoMemory))

-- ---- answering a script

-- what is told of the script before a run, and of what the run added to the answers and to the proof
abbrev pub Adds : Files → Files → (List ℕ → List ℕ → List ℕ → Type 0) → Type 0
Adds old new = Told old.script.bytes old.answers.bytes new.answers.bytes old.proof.bytes new.proof.bytes

-- A script is answered within the limits, and its proof is written.
pub record Solves (limits : Limits) (status : Status) (old new : Files) : Type 0 where
  -- After every status the answers that were written whole stand beside a proof that is accepted to the last of their checks.
  -- Cut behind its last whole record, the proof is one that a check accepts with the script cut there. The answers are right:
  -- each `sat` has a model, and where there is an `unsat` there is none. An `unknown` stands beside the diary of one of its
  -- cubes, on which the budget was spent, and its other cubes were searched too. No check made a term. What is printed is right
  -- too: a model and values are those of the record of the check that stands; the assertions of a core with all that have no
  -- name and the assumptions of that check have no model; assumptions that cannot hold have none with all live assertions. Of
  -- the lemmas and chains that a check found the proof has those that its record needs, and it deletes what no later check can use.
  pub beside : Adds old new (IsBeside limits)
  -- At the end all is answered, the proof is accepted, a check of both accepts it, and the status tells whether an error is
  -- among the answers.
  pub whole : IsEnd status → Adds old new (IsAllAnswered limits status)
  -- What was answered before a stop is a front of the answers to the first commands.
  pub prefix : Adds old new (λ text answered proved. IsPrefix limits text answered)
  -- Each command is answered before the next read: where a read failed, or the script is too long, what was read before is answered.
  pub answered : FailsToRead status → Adds old new (IsAnsweredToRead limits status new.script.bytes)
  -- Without a fault a script that is told and not too long is answered whole, but for want of memory.
  pub complete : IsShort old.script.bytes → IsWithoutFault (counts_of old) (counts_of new) → IsEndOrWant status
  -- The run comes to its end only at the end of the script or at a command that ends it. It reads 2^32 bytes of the script, and
  -- one more where there is one.
  pub at_end : IsEnd status → IsReadOut old.script.bytes new.script.bytes
  pub within : status ≢ TooLong → ReadsWithin old.script.bytes new.script.bytes
  pub too_long : status ≡ TooLong → ReadsBytes (input_limit + 1) old.script.bytes new.script.bytes
  -- The proof begins with the header of the second format, which has the limits.
  pub header : status ≢ WriteFault → status ≢ NoMemory → BeginsWith (header_of Two limits) old.proof.bytes new.proof.bytes
  -- A fault is told only where a count rose.
  pub cause : HasCause (counts_of old) (counts_of new) status

-- ---- checking a proof

-- what is told of both texts before a check, and of what it added to the answers
abbrev pub Tells : Files → Files → (List ℕ → List ℕ → List ℕ → Type 0) → Type 0
Tells old new = ToldOf old.script.bytes old.proof.bytes old.answers.bytes new.answers.bytes

-- within no limits any turns of the script make this an accepted proof
abbrev pub IsNoProof : List ℕ → List ℕ → List ℕ → Type 0
IsNoProof text lines answered = (limits : Limits) (turns : List Turn) → Accepted limits text lines turns → ⊥

-- A script and a proof are judged.
pub record Checks (status : Status) (old new : Files) : Type 0 where
  -- At the end this is judged of both texts, `Done` exactly where the proof is accepted.
  pub judged : IsEnd status → Tells old new (IsEndOfCheck status)
  -- What is accepted is right, whoever wrote the proof: within some limits there are turns of the script that make an accepted
  -- proof and have the verdicts that are told, each `sat` has a model, and where there is an `unsat` there is none.
  pub accepted : status ≡ Done → Tells old new IsRightlyAccepted
  -- Refused means that no turns of the script make the proof an accepted one.
  pub refused : status ≡ Refused → Tells old new IsNoProof
  -- What was told before a stop are verdicts of records that are accepted, whatever stands behind them, the last line maybe cut
  -- off, or a front of the whole report. Whatever is judged of both texts, its report begins with what is told. Each verdict that
  -- was told is right, also where a later line is refused or the run ended before.
  pub front : Tells old new IsFrontOfCheck
  -- Without a fault two texts that are told and not too long are judged, but for want of memory.
  pub always : IsShort old.script.bytes → IsShort old.proof.bytes → IsWithoutFault (counts_of old) (counts_of new) → IsEndOrWant status
  -- Of each input 2^32 bytes are read, and one more of one of them where it is too long.
  pub within : ReadsForStatus old.script.bytes new.script.bytes old.proof.bytes new.proof.bytes status
  -- A fault is told only where a count rose.
  pub cause : HasCheckCause (counts_of old) (counts_of new) status
