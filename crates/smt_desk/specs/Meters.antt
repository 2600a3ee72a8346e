-- Meters: how many of so many bytes are counted.
use Rattle.std.specs.Prelude.{ℕ, ◌+◌, ◌-◌}

-- how many may be counted, and how many are
pub record Metered : Type 0 where
  pub limit : ℕ
  pub held : ℕ

-- how many may still be counted
abbrev pub room : Metered → ℕ
room m = m.limit - m.held

-- so many more are counted
abbrev pub counting : Metered → ℕ → Metered
counting m n = record m { held = m.held + n }
