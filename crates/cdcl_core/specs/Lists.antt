-- What is seen of linked places: the places of each list, in order, and the literal of each place.
use Rattle.std.specs.Prelude.{ℕ, List}

pub record Lists : Type 0 where
  pub lists : List (List ℕ)
  pub literals : List ℕ
