-- What is set for a declaration in a table that is kept.
use Rattle.std.specs.Prelude.{◌≡◌, ◌⊎◌, false, Option, Some, None}
use Rattle.smt_values.specs.declared.value.Value.{Value}
use Rattle.smt_values.specs.declared.value.Value.TheVariants as held

-- no value, or false
abbrev pub IsBlank : Option Value → Type 0
IsBlank o = (o ≡ None) ⊎ (o ≡ Some (held.Bool false))

-- the same is set, or a blank where there is no value: a declaration without one means false
abbrev pub MeansSame : Option Value → Option Value → Type 0
MeansSame set wanted = (set ≡ wanted) ⊎ (IsBlank set × (wanted ≡ None))
