-- What a run that answers a script reads and writes, and why it ends.
use Rattle.std.specs.Prelude.{◌≡◌, ◌⊎◌, ℕ, ◌+◌, Bool, List, ◌++◌, Option, Result, Ok, Err}
use Rattle.std.specs.Io.KnownBytes.{Appends}
use Rattle.smt_check.specs.declared.status.Status.{Status}
use Rattle.smt_check.specs.declared.status.Status.TheVariants.{Done, Refused, Usage, ReadFault, WriteFault, NoMemory, TooLong}
use Rattle.smt_check.specs.Runs.{ReadsBytes, ReadsWithin, input_limit}

-- bytes were written that begin with these
abbrev pub BeginsWith : List ℕ → Option (List ℕ) → Option (List ℕ) → Type 0
BeginsWith front old new = (rest : List ℕ) × Appends old new (front ++ rest)

-- why a run ends while it writes
abbrev pub StopsWriting : Status → Type 0
StopsWriting s = (s ≡ WriteFault) ⊎ (s ≡ NoMemory)

-- why a run ends while it reads its script
abbrev pub FailsToRead : Status → Type 0
FailsToRead s = (s ≡ ReadFault) ⊎ (s ≡ TooLong)

-- how many bytes of the script were read and not taken: the one that made it too long
abbrev pub untaken : Status → ℕ
untaken TooLong = 1
untaken _ = 0

-- how much a script was read: at most as much as may be read, and one byte more only where it is too long
abbrev pub IsRead : Option (List ℕ) → Option (List ℕ) → Result Bool Status → Type 0
IsRead old new (Ok refused) = ReadsWithin old new
IsRead old new (Err Done) = ⊥
IsRead old new (Err Refused) = ⊥
IsRead old new (Err Usage) = ⊥
IsRead old new (Err ReadFault) = ReadsWithin old new
IsRead old new (Err WriteFault) = ReadsWithin old new
IsRead old new (Err NoMemory) = ReadsWithin old new
IsRead old new (Err TooLong) = ReadsBytes (input_limit + 1) old new
