-- Places under the parts that need them last.
use Rattle.std.specs.Prelude.{◌≡◌, ℕ, zero, suc, ◌<◌, List, [], ◌∷◌, ◌++◌, length, get_or}
use Rattle.proof_text.specs.declared.line.Line.{Line}
use Rattle.proof_conversion.specs.Needs.{due}

-- one place more at the end of the list of this number, where there is one
abbrev pub filed : ℕ → ℕ → List (List ℕ) → List (List ℕ)
filed part place [] = []
filed zero place (ps ∷ lists) = (ps ++ place ∷ []) ∷ lists
filed (suc part) place (ps ∷ lists) = ps ∷ filed part place lists

abbrev pub no_lists : ℕ → List (List ℕ)
no_lists zero = []
no_lists (suc n) = [] ∷ no_lists n

-- the list of each number has the places that this part is the last to need
pub record AreDue (count : ℕ) (steps : List Line) (last : List ℕ) (lists : List (List ℕ)) : Type 0 where
  pub count_is : length lists ≡ count
  pub each : (row : ℕ) → row < count → get_or lists row [] ≡ due row 1 steps last
