-- A walk back over the trail: the marked places are what the conflict rests on.
use Rattle.std.specs.Prelude.{ℕ, ◌≡◌, ◌≢◌, ◌-◌, ◌<◌, ◌≤◌, ◌⊎◌, Bool, true, false, List, Contains, length, reverse, slice_index_or}
use Rattle.cnf_base.specs.Literals.{Literal, negated}
use Rattle.cnf_base.specs.declared.clause.ClauseId.{ClauseId}
use Rattle.hint_chain.specs.Chains.{Lookup}
use Rattle.cdcl_core.specs.Levels.{Row}
use Rattle.cdcl_learn.specs.declared.walk.Walk.{Walk}
use Rattle.cdcl_learn.specs.Rows.{literal_at, level_at, IsReasonOf}
use Rattle.cdcl_learn.specs.Puts.{StandsIn, UsesEach}

abbrev pub IsSet : List Bool → ℕ → Type 0
IsSet marks p = slice_index_or marks p false ≡ true

-- the places of the false literals of a clause are marked too
pub record IsMarked (rows : List Row) (c : List Literal) (old new : List Bool) : Type 0 where
  pub size : length new ≡ length old
  pub kept : (p : ℕ) → IsSet old p → IsSet new p
  pub joined : (p : ℕ) → p < length rows → Contains c (negated (literal_at rows p)) → IsSet new p
  pub from : (p : ℕ) → IsSet new p → (IsSet old p) ⊎ (Contains c (negated (literal_at rows p)))

-- from every part of the trail that has the marked literals the hints are a chain, and the opposite of each stands in a hint
pub record IsDerived (look : Lookup) (rows : List Row) (marks : List Bool) (hints : List ClauseId) : Type 0 where
  pub derives : (a : List Literal) → ((l : Literal) → Contains a l → (k : ℕ) × ((k < length rows) × (literal_at rows k ≡ l))) →
      ((p : ℕ) → p < length rows → IsSet marks p → Contains a (literal_at rows p)) → UsesEach look a hints
  pub stands : (p : ℕ) → p < length rows → IsSet marks p → StandsIn look hints (negated (literal_at rows p))

pub record IsWalk (look : Lookup) (rows : List Row) (walk : Walk) : Type 0 where
  pub size : length walk.marks ≡ length rows
  pub derived : IsDerived look rows walk.marks (reverse walk.hints.items)

-- the hints that came forced literals of the trail
abbrev pub MeetsReasons : List Row → List ClauseId → List ClauseId → Type 0
MeetsReasons rows old new = (id : ClauseId) → Contains new id → (Contains old id) ⊎ (IsReasonOf rows id)

-- the mark of a place is gone, and those that came are before it
pub record IsResolved (i : ℕ) (old new : List Bool) : Type 0 where
  pub gone : IsSet new i → ⊥
  pub kept : (p : ℕ) → p ≢ i → IsSet old p → IsSet new p
  pub from : (p : ℕ) → IsSet new p → ((p ≢ i) × IsSet old p) ⊎ (p < i)

-- the places from `end` on keep their marks, and each mark before it is at or before an old one
pub record IsExplained (end : ℕ) (old new : List Bool) : Type 0 where
  pub kept : (p : ℕ) → end ≤ p → IsSet old p → IsSet new p
  pub above : (p : ℕ) → end ≤ p → IsSet new p → IsSet old p
  pub below : (p : ℕ) → p < end → IsSet new p → (q : ℕ) × ((p ≤ q) × ((q < end) × IsSet old q))

-- the end of the last marked place before `end`, 0 where there is none
pub record IsTop (marks : List Bool) (end top : ℕ) : Type 0 where
  pub reached : top ≤ end
  pub marked : 0 < top → IsSet marks (top - 1)
  pub above : (p : ℕ) → top ≤ p → p < end → IsSet marks p → ⊥

-- of the marked places, exactly this one is of the level
pub record IsUnique (rows : List Row) (marks : List Bool) (level place : ℕ) : Type 0 where
  pub within : place < length rows
  pub marked : IsSet marks place
  pub stands_at : level_at rows place ≡ level
  pub above : (p : ℕ) → place < p → IsSet marks p → ⊥
  pub below : (p : ℕ) → p < place → IsSet marks p → level_at rows p < level
