-- Lists of positions, to which some are added.
use Rattle.std.specs.Prelude.{◌≡◌, ◌⊎◌, ℕ, List, Contains}

-- the position is listed beside the old ones
pub record IsWith (old : List ℕ) (at : ℕ) (new : List ℕ) : Type 0 where
  pub kept : (p : ℕ) → Contains old p → Contains new p
  pub here : Contains new at
  pub only : (p : ℕ) → Contains new p → Contains old p ⊎ (p ≡ at)

-- the old positions are kept, and what is new is of this kind
pub record Gains (old : List ℕ) (Kind : ℕ → Type 0) (new : List ℕ) : Type 0 where
  pub kept : (p : ℕ) → Contains old p → Contains new p
  pub only : (p : ℕ) → Contains new p → Contains old p ⊎ Kind p
