-- When values are the same to a sort.
use Rattle.std.specs.Prelude.{◌≡◌, ℕ, ◌<◌, ◌^◌, List, [], ◌∷◌}
use Rattle.smt_terms.specs.declared.sort.Sort.{Sort}
use Rattle.smt_terms.specs.declared.sort.Sort.TheVariants as sort
use Rattle.smt_terms.specs.Values.{Value, VArray, Elements, HasSort, held_at}

-- the values are one, and arrays have one element at each index of the sort
abbrev pub AreAlike : Sort → Value → Value → Type 0
AreAlike sort.Bool v w = v ≡ w
AreAlike (sort.Word n) v w = v ≡ w
AreAlike (sort.Array n m) v w = (a : Elements) × (b : Elements) × (v ≡ VArray n m a) × (w ≡ VArray n m b) × ((i : ℕ) → i < 2 ^ n → held_at a i ≡ held_at b i)

-- values of these sorts, one by one
abbrev pub HaveSorts : List Sort → List Value → Type 0
HaveSorts [] [] = Unit {0}
HaveSorts [] (v ∷ vs) = ⊥
HaveSorts (s ∷ ss) [] = ⊥
HaveSorts (s ∷ ss) (v ∷ vs) = HasSort s v × HaveSorts ss vs
