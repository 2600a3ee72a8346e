-- A table by term of the places of steps.
use Rattle.std.specs.Prelude.{◌≡◌, ℕ, List, Some, slice_get}
use Rattle.reached_images.specs.declared.plan.Planned.{Planned}

-- the term of each step has its place in the table
abbrev pub IsTable : List ℕ → List Planned → Type 0
IsTable places steps = (k : ℕ) (p : Planned) → slice_get steps k ≡ Some p → slice_get places p.term ≡ Some k

-- every row is kept
abbrev pub Keeps : List ℕ → List ℕ → Type 0
Keeps old new = (k x : ℕ) → slice_get old k ≡ Some x → slice_get new k ≡ Some x
