-- Marks by place, and by block of 16 places whether one of them was marked.
use Rattle.std.specs.Prelude.{ℕ, ◌≡◌, ◌*◌, ◌/◌, ◌<◌, Bool, true, false, List, length, slice_index_or}

pub record HaveBlocks (places blocks : List Bool) : Type 0 where
  pub each : (p : ℕ) → slice_index_or places p false ≡ true → slice_index_or blocks (p / 16) false ≡ true
  pub room : length places < 16 * length blocks
