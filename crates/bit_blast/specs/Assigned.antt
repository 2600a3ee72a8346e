-- Assignments as lists of truth values.
use Rattle.std.specs.Prelude.{ℕ, zero, suc, ◌<◌, ◌≤◌, Bool, false, List, length, unwrap_or, slice_get}
use Rattle.cnf_base.specs.Literals.{Literal}

-- the value of each variable, where those from 1 on have these and every other one is false
abbrev pub assigned : List Bool → ℕ → Bool
assigned values zero = false
assigned values (suc x) = unwrap_or (slice_get values x) false

-- as many bits as a word can have
abbrev pub IsLongAsWord : List Literal → Type 0
IsLongAsWord row = (0 < length row) × (length row ≤ 128)
