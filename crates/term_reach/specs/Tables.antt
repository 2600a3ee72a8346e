-- A table by term of the places of terms.
use Rattle.std.specs.Prelude.{◌≡◌, ℕ, List, Some, slice_get}

-- each of the terms has its place in the table
abbrev pub IsTable : List ℕ → List ℕ → Type 0
IsTable places terms = (k t : ℕ) → slice_get terms k ≡ Some t → slice_get places t ≡ Some k

-- every row is kept
abbrev pub Keeps : List ℕ → List ℕ → Type 0
Keeps old new = (k x : ℕ) → slice_get old k ≡ Some x → slice_get new k ≡ Some x
