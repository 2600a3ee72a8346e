-- What a check of a refutation promises of its files: the clauses stand where a script does, the refutation where a proof does.
use Rattle.std.specs.Prelude.{◌≡◌, ℕ, List, Option, Some, None}
use Rattle.dimacs_run.specs.declared.failure.Fault.{Fault}
use Rattle.dimacs_run.specs.declared.failure.Unread.{Unread}
use Rattle.dimacs_run.specs.declared.failure.Unread.TheVariants as unread
use Rattle.dimacs_run.specs.declared.failure.Failure.{Failure}
use Rattle.dimacs_run.specs.declared.failure.Failure.TheVariants as failure
use Rattle.dimacs_run.specs.Endings.{IsFront, IsRightlyAccepted}
use Rattle.dimacs_run.specs.Endings.{IsEnd as IsFaultTold}
use Rattle.smt_check.specs.declared.status.Status.{Status}
use Rattle.smt_check.specs.declared.status.Status.TheVariants.{Done, Refused, ReadFault, WriteFault, NoMemory, TooLong}
use Rattle.smt_check.specs.Checks.{ReadsForStatus, HasCheckCause}
use Rattle.smt_run.specs.Beside.{IsShort, IsWithoutFault}
use Rattle.smt_run.specs.Commands.{Files, counts_of, IsEnd, IsEndOrWant, Tells}

-- without a fault of both texts all is done
abbrev pub status_by : Option Fault → Status
status_by None = Done
status_by (Some f) = Refused

abbrev pub status_unread : Unread → Status
status_unread unread.Failed = ReadFault
status_unread unread.TooLong = TooLong

abbrev pub status_of_failure : Failure → Status
status_of_failure (failure.Clauses why) = status_unread why
status_of_failure (failure.Refutation why) = status_unread why
status_of_failure failure.Unwritten = WriteFault
status_of_failure failure.NoMemory = NoMemory

-- the first fault of both texts is told, or that the refutation is accepted, and the status tells which
pub record IsEndOfRefutation (status : Status) (text lines answered : List ℕ) : Type 0 where
  pub fault : Option Fault
  pub told : IsFaultTold fault text lines answered
  pub status_is : status ≡ status_by fault

-- Clauses and a refutation of them are judged.
pub record Refutes (status : Status) (old new : Files) : Type 0 where
  -- At the end this is judged of both texts, `Done` exactly where the clauses can be read and the refutation is accepted.
  pub judged : IsEnd status → Tells old new (IsEndOfRefutation status)
  -- What is accepted is right, whoever wrote the refutation: no assignment makes all the clauses true.
  pub accepted : status ≡ Done → Tells old new IsRightlyAccepted
  -- What was told before a stop is a front of what is told of the two texts.
  pub front : Tells old new IsFront
  -- Without a fault two texts that are told and not too long are judged, but for want of memory.
  pub always : IsShort old.script.bytes → IsShort old.proof.bytes → IsWithoutFault (counts_of old) (counts_of new) → IsEndOrWant status
  -- Of each input 2^32 bytes are read, and one more of one of them where it is too long.
  pub within : ReadsForStatus old.script.bytes new.script.bytes old.proof.bytes new.proof.bytes status
  -- A fault is told only where a count rose.
  pub cause : HasCheckCause (counts_of old) (counts_of new) status
