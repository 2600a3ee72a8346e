-- Responses that are kept in memory.
use Rattle.std.specs.Prelude.{ℕ, List}

-- the bytes so far, and how often memory was wanting
pub record Keeping : Type 0 where
  pub bytes : List ℕ
  pub refused : ℕ
