-- Lists of variables in which each stands once.
use Rattle.std.specs.Prelude.{◌≡◌, ◌⊎◌, ◌<◌, ◌^◌, ℕ, List, [], ◌∷◌, ◌++◌, Some, Contains, slice_get}

-- the number of a variable that a literal may have
abbrev pub IsVariable : ℕ → Type 0
IsVariable x = (0 < x) × (x < 2 ^ 63)

-- each variable stands once
abbrev pub IsOnce : List ℕ → Type 0
IsOnce xs = (j k x : ℕ) → slice_get xs j ≡ Some x → slice_get xs k ≡ Some x → j ≡ k

-- the variable came behind the others, where it was not among them
abbrev pub IsListed : List ℕ → ℕ → List ℕ → Type 0
IsListed old x new = (Contains old x × (new ≡ old)) ⊎ ((Contains old x → ⊥) × (new ≡ old ++ x ∷ []))

-- a table by variable has the place of each variable that is listed; a literal may have each of them
pub record IsTable (places xs : List ℕ) : Type 0 where
  pub each : (k x : ℕ) → slice_get xs k ≡ Some x → slice_get places x ≡ Some k
  pub variables : (k x : ℕ) → slice_get xs k ≡ Some x → IsVariable x

-- every row is kept
abbrev pub Keeps : List ℕ → List ℕ → Type 0
Keeps old new = (k x : ℕ) → slice_get old k ≡ Some x → slice_get new k ≡ Some x
