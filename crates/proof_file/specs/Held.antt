-- The tables of a file: the places by position, and the positions by place.
use Rattle.std.specs.Prelude.{◌≡◌, ℕ, suc, List, Some, slice_get}
use Rattle.proof_file.specs.Places.{FileValue}
use Rattle.proof_file.specs.Indexed.{place_in}

-- how many steps a file has, and the places by position
pub record PlacesValue : Type 0 where
  pub count : ℕ
  pub table : List ℕ

-- the file
abbrev pub file_in : PlacesValue → FileValue
file_in p = record { count = p.count; places = place_in p.table }

-- each position stands at a place that was written for it
abbrev pub AreHeldAt : List ℕ → List ℕ → Type 0
AreHeldAt places positions = (p k : ℕ) → place_in places p ≡ suc k → slice_get positions k ≡ Some p
