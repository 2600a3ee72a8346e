-- What a search of clauses promises of its files: the clauses stand where a script does, the refutation where a proof does.
use Rattle.std.specs.Prelude.{◌≡◌, ◌≢◌, ℕ, ◌+◌, List, Option, Result, Ok, Err}
use Rattle.dimacs_run.specs.declared.failure.Unread.TheVariants as unread
use Rattle.dimacs_run.specs.declared.failure.SearchFailure.{SearchFailure}
use Rattle.dimacs_run.specs.declared.failure.SearchFailure.TheVariants as failure
use Rattle.dimacs_run.specs.declared.finding.Finding.{Finding}
use Rattle.dimacs_run.specs.declared.finding.Finding.TheVariants.{Fault, Satisfiable, Unsatisfiable}
use Rattle.dimacs_run.specs.Findings.{Answered}
use Rattle.smt_check.specs.declared.status.Status.{Status}
use Rattle.smt_check.specs.declared.status.Status.TheVariants.{Done, Refused, WriteFault, NoMemory, TooLong}
use Rattle.smt_check.specs.Runs.{ReadsBytes, ReadsWithin, HasCause, input_limit}
use Rattle.smt_run.specs.Beside.{IsShort, IsWithoutFault}
use Rattle.smt_run.specs.Commands.{Files, counts_of, IsEndOrWant}
use Rattle.smt_run.specs.Refuting.{status_unread}

-- clauses without a fault are done, whatever is found of them
abbrev pub status_found : Finding → Status
status_found (Fault f) = Refused
status_found (Satisfiable values) = Done
status_found Unsatisfiable = Done

abbrev pub status_unfound : SearchFailure → Status
status_unfound (failure.Clauses why) = status_unread why
status_unfound failure.Refutation = WriteFault
status_unfound failure.Answers = WriteFault
status_unfound failure.NoMemory = NoMemory

abbrev pub status_of_search : Result Finding SearchFailure → Status
status_of_search (Ok finding) = status_found finding
status_of_search (Err f) = status_unfound f

-- Something was found and told, or the search ended before, and the status tells which.
pub record IsSearched (status : Status) (clauses answers answers' refutation refutation' : Option (List ℕ)) : Type 0 where
  pub result : Result Finding SearchFailure
  pub status_is : status ≡ status_of_search result
  pub answered : Answered clauses refutation refutation' answers answers' result

-- Clauses are searched.
pub record Searches (status : Status) (old new : Files) : Type 0 where
  -- `Done` exactly where the clauses can be read: then values are told that make each of them true, or that there are none, and a
  -- refutation was written that is accepted. `Refused` exactly where the text has a fault, and its first is told. Before any other
  -- status nothing is told, but a front of the answer where its write failed.
  pub searched : IsSearched status old.script.bytes old.answers.bytes new.answers.bytes old.proof.bytes new.proof.bytes
  -- Without a fault a text that is told and not too long is searched to its end, but for want of memory: there is no budget.
  pub always : IsShort old.script.bytes → IsWithoutFault (counts_of old) (counts_of new) → IsEndOrWant status
  -- Of the clauses 2^32 bytes are read, and one more where they are too long.
  pub within : status ≢ TooLong → ReadsWithin old.script.bytes new.script.bytes
  pub too_long : status ≡ TooLong → ReadsBytes (input_limit + 1) old.script.bytes new.script.bytes
  -- A fault is told only where a count rose.
  pub cause : HasCause (counts_of old) (counts_of new) status
