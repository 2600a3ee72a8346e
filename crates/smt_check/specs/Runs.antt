-- What a run reads and writes, and why it ends.
use Rattle.std.specs.Prelude.{◌≡◌, ◌⊎◌, ℕ, ◌^◌, ◌≤◌, List, Option, Result, Ok, Err, length}
use Rattle.std.specs.Io.KnownBytes.{Appends, Consumes, IsAtEnd}
use Rattle.smt_desk.specs.Faults.{Rose}
use Rattle.smt_check.specs.declared.status.Status.{Status}
use Rattle.smt_check.specs.declared.status.Status.TheVariants.{Done, Refused, Usage, ReadFault, WriteFault, NoMemory, TooLong}

-- some bytes were written
abbrev pub AddsTo : Option (List ℕ) → Option (List ℕ) → Type 0
AddsTo old new = (bytes : List ℕ) × Appends old new bytes

-- so many bytes were read
abbrev pub ReadsBytes : ℕ → Option (List ℕ) → Option (List ℕ) → Type 0
ReadsBytes n old new = (bytes : List ℕ) × Consumes old new bytes × (length bytes ≡ n)

-- how many bytes of one input are read
abbrev pub input_limit : ℕ
input_limit = 2 ^ 32

-- the counts of faults of the sources and sinks of a run
pub record Counts : Type 0 where
  pub script : ℕ
  pub answers : ℕ
  pub proof : ℕ

abbrev pub counts : ℕ → ℕ → ℕ → Counts
counts s a p = record { script = s; answers = a; proof = p }

-- no count fell
pub record IsLater (old new : Counts) : Type 0 where
  pub script : old.script ≤ new.script
  pub answers : old.answers ≤ new.answers
  pub proof : old.proof ≤ new.proof

-- a fault is answered only where a count rose
abbrev pub HasCause : Counts → Counts → Status → Type 0
HasCause old new Done = Unit {0}
HasCause old new Refused = Unit {0}
HasCause old new Usage = Unit {0}
HasCause old new ReadFault = Rose old.script new.script
HasCause old new WriteFault = Rose old.answers new.answers ⊎ Rose old.proof new.proof
HasCause old new NoMemory = Unit {0}
HasCause old new TooLong = Unit {0}

-- what a read gives where so many bytes may still be read: that many at most, none only at the end, and one byte more only where the input is too long
abbrev pub ReadsPiece : ℕ → Option (List ℕ) → Option (List ℕ) → Result ℕ Status → Type 0
ReadsPiece left old new (Ok n) = (n ≤ left) × ReadsBytes n old new × (n ≡ 0 → IsAtEnd new)
ReadsPiece left old new (Err Done) = ⊥
ReadsPiece left old new (Err Refused) = ⊥
ReadsPiece left old new (Err Usage) = ⊥
ReadsPiece left old new (Err ReadFault) = ReadsBytes 0 old new
ReadsPiece left old new (Err WriteFault) = ⊥
ReadsPiece left old new (Err NoMemory) = ⊥
ReadsPiece left old new (Err TooLong) = (left ≡ 0) × ReadsBytes 1 old new

-- at most as many bytes as may be read
abbrev pub ReadsWithin : Option (List ℕ) → Option (List ℕ) → Type 0
ReadsWithin old new = (n : ℕ) × (n ≤ input_limit) × ReadsBytes n old new
