-- What a check of a script and a proof reads, and why it ends.
use Rattle.std.specs.Prelude.{◌≡◌, ◌⊎◌, ℕ, ◌+◌, ◌<◌, ◌≤◌, Bool, true, false, List, [], ◌++◌, length, Option, Some, None, IfSome, Result, Ok, Err}
use Rattle.std.specs.List.{flat_map}
use Rattle.std.specs.Io.KnownBytes.{Consumes, IsAtEnd}
use Rattle.script_state.specs.declared.answer.Verdict.{Verdict}
use Rattle.script_state.specs.States.{no_state}
use Rattle.accepted_proof.specs.declared.refusal.Refusal.{Refusal}
use Rattle.accepted_proof.specs.Searching.{Limits}
use Rattle.accepted_proof.specs.Turns.{Turn}
use Rattle.accepted_proof.specs.Accepted.{Accepted, AcceptedSoFar}
use Rattle.accepted_proof.specs.Right.{AreRight}
use Rattle.accepted_proof.specs.Answers.{verdict_text}
use Rattle.proof_checker.specs.Checkings.{Judges, Accepts, IsFed}
use Rattle.proof_checker.specs.declared.checking.Checking.{Checking}
use Rattle.proof_checker.specs.declared.checking.Judgement.{Judgement}
use Rattle.smt_desk.specs.Faults.{Rose}
use Rattle.smt_check.specs.declared.status.Status.{Status}
use Rattle.smt_check.specs.declared.status.Status.TheVariants.{Done, Refused, Usage, ReadFault, WriteFault, NoMemory, TooLong}
use Rattle.proof_checker.specs.Checked.{IsJudged, IsAcceptedSoFar, verdicts_of}
use Rattle.proof_checker.specs.Reports.{report_text}
use Rattle.smt_check.specs.Runs.{ReadsBytes, ReadsWithin, Counts, input_limit}

-- ---- one input

-- at most so many bytes were read
abbrev pub ReadsUpTo : ℕ → Option (List ℕ) → Option (List ℕ) → Type 0
ReadsUpTo left old new = (n : ℕ) × (n ≤ left) × ReadsBytes n old new

-- why a check ends while it reads an input of which so many bytes may still be read, and how much of it was read
abbrev pub StopsReading : ℕ → Option (List ℕ) → Option (List ℕ) → Status → Type 0
StopsReading left old new Done = ⊥
StopsReading left old new Refused = ⊥
StopsReading left old new Usage = ⊥
StopsReading left old new ReadFault = ReadsUpTo left old new
StopsReading left old new WriteFault = ⊥
StopsReading left old new NoMemory = ReadsUpTo left old new
StopsReading left old new TooLong = ReadsBytes (left + 1) old new

-- one more where an input is not ended
abbrev pub if_open : Bool → ℕ
if_open true = 0
if_open false = 1

-- a piece of the script was fed, or its end; so many bytes might be read before, and may be now
pub record TakesScript (old new : Checking) (left rest : ℕ) (s s' : Option (List ℕ)) : Type 0 where
  pub bytes : List ℕ
  pub consumed : Consumes s s' bytes
  pub size : length bytes + rest ≡ left
  pub judged : (script proof : List ℕ) (vs : List Verdict) (o : Option Refusal) → Judges new script proof vs o → Judges old (bytes ++ script) proof vs o
  pub accepted : (script proof : List ℕ) (vs : List Verdict) → Accepts new script proof vs → Accepts old (bytes ++ script) proof vs
  pub fed : IsFed old new (length bytes)
  pub end : new.inputs.script_ended ≡ true → IsAtEnd s'
  pub other : new.inputs.proof_ended ≡ old.inputs.proof_ended
  pub less : rest + if_open new.inputs.script_ended < left + 1

-- the same of the proof
pub record TakesProof (old new : Checking) (left rest : ℕ) (p p' : Option (List ℕ)) : Type 0 where
  pub bytes : List ℕ
  pub consumed : Consumes p p' bytes
  pub size : length bytes + rest ≡ left
  pub judged : (script proof : List ℕ) (vs : List Verdict) (o : Option Refusal) → Judges new script proof vs o → Judges old script (bytes ++ proof) vs o
  pub accepted : (script proof : List ℕ) (vs : List Verdict) → Accepts new script proof vs → Accepts old script (bytes ++ proof) vs
  pub fed : IsFed old new (length bytes)
  pub end : new.inputs.proof_ended ≡ true → IsAtEnd p'
  pub other : new.inputs.script_ended ≡ old.inputs.script_ended
  pub less : rest + if_open new.inputs.proof_ended < left + 1

-- ---- both inputs

-- how much of the script and of the proof was read: at most 2^32 bytes, and one more of one of them only where it is too long
abbrev pub ReadsBoth : Option (List ℕ) → Option (List ℕ) → Option (List ℕ) → Option (List ℕ) → Result Judgement Status → Type 0
ReadsBoth s s' p p' (Ok j) = ReadsWithin s s' × ReadsWithin p p'
ReadsBoth s s' p p' (Err Done) = ⊥
ReadsBoth s s' p p' (Err Refused) = ⊥
ReadsBoth s s' p p' (Err Usage) = ⊥
ReadsBoth s s' p p' (Err ReadFault) = ReadsWithin s s' × ReadsWithin p p'
ReadsBoth s s' p p' (Err WriteFault) = ReadsWithin s s' × ReadsWithin p p'
ReadsBoth s s' p p' (Err NoMemory) = ReadsWithin s s' × ReadsWithin p p'
ReadsBoth s s' p p' (Err TooLong) = (ReadsBytes (input_limit + 1) s s' × ReadsWithin p p') ⊎ (ReadsWithin s s' × ReadsBytes (input_limit + 1) p p')

-- ---- what is told

abbrev pub status_of : Option Refusal → Status
status_of None = Done
status_of (Some r) = Refused

-- where both inputs and the answers were told before, there are bytes that were added to the answers, such that P
abbrev pub ToldOf : Option (List ℕ) → Option (List ℕ) → Option (List ℕ) → Option (List ℕ) → (List ℕ → List ℕ → List ℕ → Type 0) → Type 0
ToldOf script proof answers answers' P =
    IfSome script (λ text. IfSome proof (λ lines. IfSome answers (λ a.
    (answered : List ℕ) × (answers' ≡ Some (a ++ answered)) × P text lines answered)))

-- the proof is accepted, or refused, and this is told
pub record IsEndOfCheck (status : Status) (text lines answered : List ℕ) : Type 0 where
  pub verdicts : List Verdict
  pub refusal : Option Refusal
  pub judged : IsJudged text lines verdicts refusal
  pub report : answered ≡ report_text verdicts refusal
  pub status_is : status ≡ status_of refusal

-- There are turns of the script with the verdicts that are told. Within some limits the proof is their accepted proof, and they
-- are right: each `sat` has a model, and where there is an `unsat` there is none.
pub record IsRightlyAccepted (text lines answered : List ℕ) : Type 0 where
  pub limits : Limits
  pub turns : List Turn
  pub accepted : Accepted limits text lines turns
  pub right : AreRight no_state turns
  pub report : answered ≡ report_text (verdicts_of turns) None

-- a front of what is told of the two texts
pub record IsFrontOfReport (text lines answered : List ℕ) : Type 0 where
  pub verdicts : List Verdict
  pub refusal : Option Refusal
  pub rest : List ℕ
  pub judged : IsJudged text lines verdicts refusal
  pub report : report_text verdicts refusal ≡ answered ++ rest

-- a front of the verdicts of records that are accepted, whatever stands behind them in the two texts
pub record IsFrontOfVerdicts (text lines answered : List ℕ) : Type 0 where
  pub verdicts : List Verdict
  pub rest : List ℕ
  pub accepted : IsAcceptedSoFar text lines verdicts
  pub report : flat_map verdict_text verdicts ≡ answered ++ rest

-- there are no verdicts yet, or a front of the proof is accepted, and they are those of its records
abbrev pub AreKnown : List ℕ → List ℕ → List Verdict → Type 0
AreKnown text lines verdicts = (verdicts ≡ []) ⊎ IsAcceptedSoFar text lines verdicts

-- Within some limits the proof begins with the accepted proof of turns of the first commands. They have these verdicts, and are
-- right: each `sat` has a model, and where there is an `unsat` there is none.
pub record AreRightVerdicts (text lines : List ℕ) (verdicts : List Verdict) : Type 0 where
  pub limits : Limits
  pub turns : List Turn
  pub accepted : AcceptedSoFar limits text lines turns
  pub right : AreRight no_state turns
  pub verdicts_are : verdicts ≡ verdicts_of turns

-- a front of a report is told, and its verdicts are right, where there are any
pub record IsRightSoFar (text lines answered : List ℕ) : Type 0 where
  pub verdicts : List Verdict
  pub refusal : Option Refusal
  pub rest : List ℕ
  pub report : report_text verdicts refusal ≡ answered ++ rest
  pub right : (verdicts ≡ []) ⊎ AreRightVerdicts text lines verdicts

-- Nothing is told, or verdicts of accepted records alone, or a front of the whole report. Whatever is judged of the two texts, its
-- report begins with what is told. Each verdict that is told is right, whatever is judged behind it.
pub record IsFrontOfCheck (text lines answered : List ℕ) : Type 0 where
  pub told : (answered ≡ []) ⊎ (IsFrontOfVerdicts text lines answered ⊎ IsFrontOfReport text lines answered)
  pub begins : (verdicts : List Verdict) (refusal : Option Refusal) → IsJudged text lines verdicts refusal → (rest : List ℕ) × (report_text verdicts refusal ≡ answered ++ rest)
  pub right : IsRightSoFar text lines answered

-- how much was read of both inputs, by the status
abbrev pub ReadsForStatus : Option (List ℕ) → Option (List ℕ) → Option (List ℕ) → Option (List ℕ) → Status → Type 0
ReadsForStatus s s' p p' TooLong = ReadsBoth s s' p p' (Err TooLong)
ReadsForStatus s s' p p' _ = ReadsWithin s s' × ReadsWithin p p'

-- a fault is told only where the count of a source, or of the answers, rose; the last count is that of the proof
abbrev pub HasCheckCause : Counts → Counts → Status → Type 0
HasCheckCause old new ReadFault = Rose old.script new.script ⊎ Rose old.proof new.proof
HasCheckCause old new WriteFault = Rose old.answers new.answers
HasCheckCause old new _ = Unit {0}
