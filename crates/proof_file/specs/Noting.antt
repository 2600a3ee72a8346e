-- What the steps of a look-up of stale chains leave.
use Rattle.std.specs.Prelude.{◌≡◌, ◌⊎◌, ℕ, ◌+◌, ◌<◌, Bool, false, List, MatchBool, Contains, Option, Some, None}
use Rattle.cnf_base.specs.Literals.{Literal}
use Rattle.smt_terms.specs.declared.node.Node.{Node}
use Rattle.scope_selectors.specs.declared.live.Live.{Live}
use Rattle.proof_log.specs.declared.entry.Entry.{Entry}
use Rattle.proof_log.specs.declared.entry.Entry.TheVariants as step
use Rattle.proof_log.specs.Logs.{with_value}
use Rattle.proof_file.specs.Indexed.{StaleIndex, selected_by, noted_under, place_in, IsSelectorOf, IsIndexOf}

-- the assertion of which the step makes the selector
abbrev pub assertion_of : Entry → Option ℕ
assertion_of (step.Selector a t) = Some a
assertion_of _ = None

-- wherever it was an index it still is one
abbrev pub KeepsIndex : List Node → List Entry → StaleIndex → StaleIndex → Type 0
KeepsIndex nodes log old new = (places : ℕ → ℕ) → IsIndexOf old nodes log places → IsIndexOf new nodes log places

-- what the step tells is known: of a step that makes a selector, which variable it is; else nothing is new
abbrev pub IsNamed : List Node → List Entry → List (Option ℕ) → List (Option ℕ) → Option ℕ → Type 0
IsNamed nodes log old new None = (x : ℕ) → selected_by new x ≡ selected_by old x
IsNamed nodes log old new (Some a) = (x : ℕ) × IsSelectorOf nodes log a x × ((y : ℕ) → selected_by new y ≡ with_value (selected_by old) x a y)

-- the literal is the negated selector of the assertion
abbrev pub Denies : List (Option ℕ) → Literal → ℕ → Type 0
Denies rows l a = (l.positive ≡ false) × (selected_by rows l.variable ≡ Some a)

-- so is one of these literals
abbrev pub DenyAmong : List (Option ℕ) → List Literal → ℕ → Type 0
DenyAmong rows literals a = (l : Literal) × Contains literals l × Denies rows l a

-- the assertions under which positions are noted are watched
abbrev pub AreWatched : StaleIndex → Type 0
AreWatched v = (a p : ℕ) → Contains (noted_under v.noted a) p → Contains v.watched a

-- the position is noted under these assertions, beside what was
pub record HasNoted (p : ℕ) (Under : ℕ → Type 0) (old new : StaleIndex) : Type 0 where
  pub read : new.read ≡ old.read
  pub selected : new.selected ≡ old.selected
  pub kept : (a q : ℕ) → Contains (noted_under old.noted a) q → Contains (noted_under new.noted a) q
  pub only : (a q : ℕ) → Contains (noted_under new.noted a) q → Contains (noted_under old.noted a) q ⊎ ((q ≡ p) × Under a)
  pub here : (a : ℕ) → Under a → Contains (noted_under new.noted a) p
  pub watched : AreWatched old → AreWatched new

-- the assertion is live
abbrev pub IsLive : List Live → ℕ → Type 0
IsLive live n = (a : Live) × Contains live a × (a.assertion ≡ n)

-- the marks are those of what is live, counted from 1
pub record AreMarked (marks : List ℕ) (live : List Live) : Type 0 where
  pub each : (a : ℕ) → Contains marks (a + 1) → IsLive live a
  pub every : (a : Live) → Contains live a → Contains marks (a.assertion + 1)

-- whether the assertion has a mark is as it is wanted
abbrev pub IsWanted : List ℕ → Bool → ℕ → Type 0
IsWanted marks wanted a = MatchBool wanted (Contains marks (a + 1)) (Contains marks (a + 1) → ⊥)

-- those of the old numbers that are of this kind
pub record ArePicked (Kind : ℕ → Type 0) (old new : List ℕ) : Type 0 where
  pub each : (a : ℕ) → Contains new a → Contains old a × Kind a
  pub every : (a : ℕ) → Contains old a → Kind a → Contains new a

-- what was there, and the numbers of this kind
pub record Adds (old : List ℕ) (Kind : ℕ → Type 0) (new : List ℕ) : Type 0 where
  pub kept : (q : ℕ) → Contains old q → Contains new q
  pub only : (q : ℕ) → Contains new q → Contains old q ⊎ Kind q
  pub each : (q : ℕ) → Kind q → Contains new q

-- one of the positions stands at the place
abbrev pub IsPlaceOf : List ℕ → List ℕ → ℕ → Type 0
IsPlaceOf places ps q = (p : ℕ) × Contains ps p × (place_in places p ≡ q) × (0 < q)

-- so does one that is noted under one of the assertions
abbrev pub IsPlaceUnder : List ℕ → List (List ℕ) → List ℕ → ℕ → Type 0
IsPlaceUnder places noted assertions q = (a : ℕ) × Contains assertions a × IsPlaceOf places (noted_under noted a) q

-- nothing is noted under these assertions, and under the others what was
pub record AreForgotten (assertions : List ℕ) (old new : List (List ℕ)) : Type 0 where
  pub only : (a p : ℕ) → Contains (noted_under new a) p → Contains (noted_under old a) p × (Contains assertions a → ⊥)
  pub kept : (a p : ℕ) → (Contains assertions a → ⊥) → Contains (noted_under old a) p → Contains (noted_under new a) p
