-- What a run reads and writes, and why it ends.
use Rattle.std.specs.Prelude.{◌≡◌, ℕ, ◌+◌, ◌^◌, ◌≤◌, List, Option, Some, Result, Ok, Err, length}
use Rattle.std.specs.Io.KnownBytes.{Appends, Consumes, IsAtEnd}
use Rattle.smt_desk.specs.Faults.{Rose}
use Rattle.dimacs_front.specs.declared.stop.Stop.{Stop}
use Rattle.dimacs_front.specs.declared.stop.Stop.TheVariants as stop
use Rattle.dimacs_front.specs.declared.cnf.CnfFault.{CnfFault}
use Rattle.dimacs_front.specs.declared.lrat.LratFault.{LratFault}
use Rattle.dimacs_run.specs.declared.failure.Fault.{Fault}
use Rattle.dimacs_run.specs.declared.failure.Fault.TheVariants as fault
use Rattle.dimacs_run.specs.declared.failure.Unread.{Unread}
use Rattle.dimacs_run.specs.declared.failure.Unread.TheVariants.{Failed, TooLong}
use Rattle.dimacs_run.specs.declared.failure.Failure.{Failure}
use Rattle.dimacs_run.specs.declared.failure.Failure.TheVariants as failure
use Rattle.dimacs_run.specs.declared.failure.Halt.{Halt}
use Rattle.dimacs_run.specs.declared.failure.Halt.TheVariants as halt

-- some bytes were written
abbrev pub AddsTo : Option (List ℕ) → Option (List ℕ) → Type 0
AddsTo old new = (bytes : List ℕ) × Appends old new bytes

-- so many bytes were read
abbrev pub ReadsBytes : ℕ → Option (List ℕ) → Option (List ℕ) → Type 0
ReadsBytes n old new = (bytes : List ℕ) × Consumes old new bytes × (length bytes ≡ n)

-- how many bytes of one input are read
abbrev pub input_limit : ℕ
input_limit = 2 ^ 32

-- at most as many bytes as may be read
abbrev pub ReadsWithin : Option (List ℕ) → Option (List ℕ) → Type 0
ReadsWithin old new = (n : ℕ) × (n ≤ input_limit) × ReadsBytes n old new

-- what a read gives where so many bytes may still be read: that many at most, none only at the end,
-- and one byte more only where the input is too long
abbrev pub ReadsPiece : ℕ → Option (List ℕ) → Option (List ℕ) → Result ℕ Unread → Type 0
ReadsPiece left old new (Ok n) = (n ≤ left) × ReadsBytes n old new × (n ≡ 0 → IsAtEnd new)
ReadsPiece left old new (Err Failed) = ReadsBytes 0 old new
ReadsPiece left old new (Err TooLong) = (left ≡ 0) × ReadsBytes 1 old new

-- ---- one input

-- how much of an input was read that was not read to its end: one byte more than may be read only
-- where it is too long
abbrev pub ReadsUntil : Option (List ℕ) → Option (List ℕ) → Unread → Type 0
ReadsUntil old new Failed = ReadsWithin old new
ReadsUntil old new TooLong = ReadsBytes (input_limit + 1) old new

abbrev pub ReadsToHalt : {F : Type 0} → Option (List ℕ) → Option (List ℕ) → Halt F → Type 0
ReadsToHalt old new (halt.Fault f) = ReadsWithin old new
ReadsToHalt old new (halt.Unread why) = ReadsUntil old new why
ReadsToHalt old new halt.NoMemory = ReadsWithin old new

-- a read failed
abbrev pub IsFailed : {F : Type 0} → Halt F → Type 0
IsFailed (halt.Fault f) = ⊥
IsFailed (halt.Unread why) = why ≡ Failed
IsFailed halt.NoMemory = ⊥

abbrev pub halt_of : {F : Type 0} → Stop F → Halt F
halt_of (stop.Fault f) = halt.Fault f
halt_of stop.NoMemory = halt.NoMemory

-- what ends the reading of an input before the input ends: its fault, or what no text says
abbrev pub HaltsAt : {A F : Type 0} → Result A F → Halt F → Type 0
HaltsAt r (halt.Fault f) = r ≡ Err f
HaltsAt r (halt.Unread why) = Unit {0}
HaltsAt r halt.NoMemory = Unit {0}

-- ---- both inputs

-- what is judged where the reading of the clauses, or of the refutation, ends before the text does
abbrev pub end_in_clauses : Halt CnfFault → Result (Option Fault) Failure
end_in_clauses (halt.Fault f) = Ok (Some (fault.Clauses f))
end_in_clauses (halt.Unread why) = Err (failure.Clauses why)
end_in_clauses halt.NoMemory = Err failure.NoMemory

abbrev pub end_in_refutation : Halt LratFault → Result (Option Fault) Failure
end_in_refutation (halt.Fault f) = Ok (Some (fault.Refutation f))
end_in_refutation (halt.Unread why) = Err (failure.Refutation why)
end_in_refutation halt.NoMemory = Err failure.NoMemory

-- how much was read of the clauses and of the refutation: at most 2^32 bytes, and one more of one
-- of them only where it is too long
abbrev pub ReadsBoth : Option (List ℕ) → Option (List ℕ) → Option (List ℕ) → Option (List ℕ) → Result (Option Fault) Failure → Type 0
ReadsBoth s s' p p' (Ok o) = ReadsWithin s s' × ReadsWithin p p'
ReadsBoth s s' p p' (Err (failure.Clauses why)) = ReadsUntil s s' why × ReadsWithin p p'
ReadsBoth s s' p p' (Err (failure.Refutation why)) = ReadsWithin s s' × ReadsUntil p p' why
ReadsBoth s s' p p' (Err failure.Unwritten) = ReadsWithin s s' × ReadsWithin p p'
ReadsBoth s s' p p' (Err failure.NoMemory) = ReadsWithin s s' × ReadsWithin p p'

-- ---- failures

-- the counts of faults of the sources and the sink of a run
pub record Counts : Type 0 where
  pub clauses : ℕ
  pub answers : ℕ
  pub refutation : ℕ

abbrev pub counts : ℕ → ℕ → ℕ → Counts
counts c a r = record { clauses = c; answers = a; refutation = r }

-- no count fell
pub record IsLater (old new : Counts) : Type 0 where
  pub clauses : old.clauses ≤ new.clauses
  pub answers : old.answers ≤ new.answers
  pub refutation : old.refutation ≤ new.refutation

-- a read that failed is answered only where the count rose
abbrev pub HasReadCause : ℕ → ℕ → Unread → Type 0
HasReadCause old new Failed = Rose old new
HasReadCause old new TooLong = Unit {0}

-- a failure is answered only where a count rose
abbrev pub HasCause : Counts → Counts → Failure → Type 0
HasCause old new (failure.Clauses why) = HasReadCause old.clauses new.clauses why
HasCause old new (failure.Refutation why) = HasReadCause old.refutation new.refutation why
HasCause old new failure.Unwritten = Rose old.answers new.answers
HasCause old new failure.NoMemory = Unit {0}
