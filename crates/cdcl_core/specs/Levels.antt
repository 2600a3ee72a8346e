-- The trail as its reader sees it, and rest: unit propagation has nothing left to do.
use Rattle.std.specs.Prelude.{ℕ, ◌≡◌, ◌≢◌, ◌≤◌, ◌⊎◌, List, Option, Some, Contains, IsSome, All, slice_get, ◌++◌, [], ◌∷◌}
use Rattle.cnf_base.specs.Literals.{Literal, negated}
use Rattle.cnf_base.specs.declared.clause.ClauseId.{ClauseId}

-- a literal that is true, its decision level, and the clause that forced it, None for a decided one
abbrev pub Row : Type 0
Row = Literal × ℕ × Option ClauseId

-- the literal stands at this place
abbrev pub StandsAt : List Row → ℕ → Literal → Type 0
StandsAt rows i l = (level : ℕ) × ((reason : Option ClauseId) × (slice_get rows i ≡ Some (l, level, reason)))

-- the clause of this name forced a literal of these
abbrev pub IsReason : List Row → ClauseId → Type 0
IsReason rows id = (i : ℕ) × (l : Literal) × (level : ℕ) × (slice_get rows i ≡ Some (l, level, Some id))

-- at the end of level j the literal is true
abbrev pub IsTrueBy : List Row → ℕ → Literal → Type 0
IsTrueBy rows j l = (i : ℕ) × ((level : ℕ) × ((reason : Option ClauseId) × ((slice_get rows i ≡ Some (l, level, reason)) × (level ≤ j))))

-- at the end of level j the literal is false
abbrev pub IsFalseBy : List Row → ℕ → Literal → Type 0
IsFalseBy rows j l = IsTrueBy rows j (negated l)

-- every literal of the clause is false at the end of level j
abbrev pub IsRefutedBy : List Row → ℕ → List Literal → Type 0
IsRefutedBy rows j c = (l : Literal) → Contains c l → IsFalseBy rows j l

-- at the end of level j the clause is neither false nor unit with its last literal open:
-- a literal of it is true, or two different ones are not false
abbrev pub RestsBy : List Row → ℕ → List Literal → Type 0
RestsBy rows j c =
    ((l : Literal) × (Contains c l × IsTrueBy rows j l))
    ⊎ ((l : Literal) × ((m : Literal) × (Contains c l × (Contains c m × ((l ≢ m) × ((IsFalseBy rows j l → ⊥) × (IsFalseBy rows j m → ⊥)))))))

-- neither the literal nor its negation is true
abbrev pub IsOpen : List Row → ℕ → Literal → Type 0
IsOpen rows level l = (IsTrueBy rows level l → ⊥) × (IsFalseBy rows level l → ⊥)

-- the new rows are the old ones and, after them, forced literals of this level
abbrev pub IsExtended : List Row → ℕ → List Row → Type 0
IsExtended old level new = (more : List Row) × ((new ≡ old ++ more) × All (λ (r : Row). (r.1 ≡ level) × IsSome r.2) more)

-- what a clause of this name that came at this level leaves of the rows: it is at rest or false and they stay, or it was unit
-- and its last open literal is forced
abbrev pub IsAdded : List Row → ℕ → ClauseId → List Literal → List Row → Type 0
IsAdded old level id c new =
    ((new ≡ old) × ((RestsBy old level c) ⊎ (IsRefutedBy old level c)))
    ⊎ ((l : Literal) × ((Contains c l) × ((IsOpen old level l) × (((m : Literal) → Contains c m → m ≢ l → IsFalseBy old level m) × (new ≡ old ++ (l, level, Some id) ∷ [])))))
