-- Which positions are held for a check.
use Rattle.std.specs.Prelude.{◌≡◌, ◌⊎◌, ◌<◌, ℕ, List, Option, Some, None, IfSome, Contains, slice_get}
use Rattle.cnf_base.specs.Literals.{Literal}
use Rattle.cnf_base.specs.declared.clause.ClauseId.{ClauseId}
use Rattle.scope_selectors.specs.declared.live.Live.{Live}
use Rattle.proof_log.specs.declared.entry.Entry.{Entry}
use Rattle.proof_log.specs.declared.entry.Entry.TheVariants as step
use Rattle.proof_log.specs.Logs.{clause_at, entry_at}
use Rattle.proof_log.specs.Places.{GivesBits, GivesSelector, IsPlaceOf}

-- ---- terms and assertions

-- the position is that of the step that gave one of these terms its bits
abbrev pub IsTermStep : List Entry → List ℕ → ℕ → Type 0
IsTermStep log reached p = (t : ℕ) × Contains reached t × GivesBits log t p

-- the position is that of the step that gave one of these assertions its selector
abbrev pub IsAssertionStep : List Entry → List Live → ℕ → Type 0
IsAssertionStep log live p = (a : Live) × Contains live a × GivesSelector log a.assertion p

-- a position among these is of the step that gave the term its bits
abbrev pub IsHeldTerm : List Entry → List ℕ → ℕ → Type 0
IsHeldTerm log held t = (p : ℕ) × GivesBits log t p × Contains held p

-- the same, or no step gave the term bits
abbrev pub IsHeldWithBits : List Entry → List ℕ → ℕ → Type 0
IsHeldWithBits log held t = (place : Option ℕ) × IsPlaceOf (GivesBits log t) place × IfSome place (Contains held)

-- a position among these is of the step that gave the assertion its selector
abbrev pub IsHeldAssertion : List Entry → List ℕ → Live → Type 0
IsHeldAssertion log held a = (p : ℕ) × GivesSelector log a.assertion p × Contains held p

-- the term of the assertion's selector is one of these
abbrev pub IsOfReached : List Entry → List ℕ → Live → Type 0
IsOfReached log reached a = (p t : ℕ) → entry_at log p ≡ Some (step.Selector a.assertion t) → Contains reached t

-- ---- equalities

-- the terms of an equality that gets a variable
abbrev pub pair_of : Entry → Option (ℕ × ℕ)
pair_of (step.Equal t u) = Some (t, u)
pair_of _ = None

-- the position is of the equality of two terms whose steps are held
abbrev pub IsHeldPair : List Entry → List ℕ → ℕ → Type 0
IsHeldPair log held p = (t : ℕ) × (u : ℕ) × (entry_at log p ≡ Some (step.Equal t u)) × IsHeldTerm log held t × IsHeldTerm log held u

-- ---- lemmas

-- the position of the step that made the variable is held
abbrev pub IsHeldMaker : List ℕ → List ℕ → ℕ → Type 0
IsHeldMaker makers held x = (p : ℕ) × (slice_get makers x ≡ Some p) × Contains held p

-- those of all these literals are
abbrev pub AreHeld : List ℕ → List ℕ → List Literal → Type 0
AreHeld makers held c = (l : Literal) → Contains c l → (0 < l.variable) × IsHeldMaker makers held l.variable

-- that of one of them is not
abbrev pub HasOther : List ℕ → List ℕ → List Literal → Type 0
HasOther makers held c = (l : Literal) × Contains c l × (0 < l.variable) × (IsHeldMaker makers held l.variable → ⊥)

-- the position of a clause
abbrev pub first_at : ℕ → ClauseId
first_at p = record { pos = p; part = 0 }

-- the clause of the position is of variables that steps at held positions made
abbrev pub IsClauseHeld : List (List (List Literal)) → List ℕ → List ℕ → ℕ → Type 0
IsClauseHeld rows makers held p = (c : List Literal) → clause_at rows (first_at p) ≡ Some c → AreHeld makers held c

-- it has another variable
abbrev pub HasOtherMaker : List (List (List Literal)) → List ℕ → List ℕ → ℕ → Type 0
HasOtherMaker rows makers held p = (c : List Literal) → clause_at rows (first_at p) ≡ Some c → HasOther makers held c

-- the position is one of these, with such a clause
abbrev pub IsHeldLemma : List (List (List Literal)) → List ℕ → List ℕ → List ℕ → ℕ → Type 0
IsHeldLemma rows makers lemmas held p = Contains lemmas p × IsClauseHeld rows makers held p

-- the position is held, or its clause has another variable
abbrev pub IsDecided : List (List (List Literal)) → List ℕ → List ℕ → ℕ → Type 0
IsDecided rows makers held p = Contains held p ⊎ HasOtherMaker rows makers held p
