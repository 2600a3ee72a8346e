-- What values mean, and the interpretation that the values of declarations give.
use Rattle.std.specs.Prelude.{◌≡◌, ℕ, List, slice_index_or, Option, Some, None}
use Rattle.smt_terms.specs.declared.sort.Sort.{Sort}
use Rattle.smt_terms.specs.declared.sort.Sort.TheVariants as sort
use Rattle.smt_terms.specs.declared.scalar.Scalar.{Scalar}
use Rattle.smt_terms.specs.declared.scalar.Scalar.TheVariants as scalar
use Rattle.smt_terms.specs.Values as of
use Rattle.smt_values.specs.declared.value.Value.{Value}
use Rattle.smt_values.specs.declared.value.Value.TheVariants as held
use Rattle.smt_values.specs.Arrays.{array_value}
use Rattle.smt_values.specs.Tables.{table_value}

-- a truth value or a word as a value
abbrev pub value_of : Scalar → Value
value_of (scalar.Bool b) = held.Bool b
value_of (scalar.Word w) = held.Word w

-- the value of a term that a truth value, a word or an array is
abbrev pub meaning : Value → of.Value
meaning (held.Bool b) = of.VBool b
meaning (held.Word w) = of.VWord w.width w.value
meaning (held.Array a) = array_value a
meaning (held.Fun t) = of.no_value

-- the function that a table is
abbrev pub function : Value → List of.Value → of.Value
function (held.Bool b) vs = of.no_value
function (held.Word w) vs = of.no_value
function (held.Array a) vs = of.no_value
function (held.Fun t) vs = table_value t vs

-- the value that is set for a declaration
abbrev pub set_for : List (Option Value) → ℕ → Option Value
set_for values d = slice_index_or values d None

abbrev pub constant_of : Option Value → of.Value
constant_of None = of.no_value
constant_of (Some v) = meaning v

abbrev pub function_of : Option Value → List of.Value → of.Value
function_of None vs = of.no_value
function_of (Some v) vs = function v vs

-- the interpretation of the declarations; the definition of a term's value reads it at their sorts, so that a declaration
-- without a value has false, zero, or the array or function that is false or zero throughout
abbrev pub interpretation_of : List (Option Value) → of.Interpretation
interpretation_of values = record { constants = λ d. constant_of (set_for values d); functions = λ d. function_of (set_for values d) }

-- an array that is set for a declaration of this sort has the sort's widths
abbrev pub Suits : Sort → Option Value → Type 0
Suits (sort.Array n m) (Some (held.Array a)) = (a.index ≡ n) × (a.default.width ≡ m)
Suits (sort.Array n m) (Some (held.Bool b)) = Unit {0}
Suits (sort.Array n m) (Some (held.Word w)) = Unit {0}
Suits (sort.Array n m) (Some (held.Fun t)) = Unit {0}
Suits (sort.Array n m) None = Unit {0}
Suits sort.Bool v = Unit {0}
Suits (sort.Word n) v = Unit {0}

-- a value of the kind that a sort has
abbrev pub IsOfSort : Sort → Value → Type 0
IsOfSort s (held.Bool b) = s ≡ sort.Bool
IsOfSort s (held.Word w) = s ≡ sort.Word w.width
IsOfSort s (held.Array a) = s ≡ sort.Array a.index a.default.width
IsOfSort s (held.Fun t) = ⊥

-- a table of a function
abbrev pub IsFunction : (List of.Value → of.Value) → Value → Type 0
IsFunction f (held.Bool b) = ⊥
IsFunction f (held.Word w) = ⊥
IsFunction f (held.Array a) = ⊥
IsFunction f (held.Fun t) = (vs : List of.Value) → table_value t vs ≡ f vs
