-- The values of all terms, as they are held.
use Rattle.std.specs.Prelude.{◌≡◌, ℕ, ◌<◌, Bool, true, false, List, length, map, slice_index_or, Option, IsOk}
use Rattle.std.specs.List.{AllByRecursion}
use Rattle.smt_terms.specs.declared.sort.Sort.{Sort}
use Rattle.smt_terms.specs.declared.sort.Sort.TheVariants as sort
use Rattle.smt_terms.specs.declared.node.Op.{Op}
use Rattle.smt_terms.specs.declared.node.Op.TheVariants.{Plain, Word, Extract, ZeroExtend, SignExtend, RotateLeft, RotateRight, Repeat, ConstantArray, Constant, Apply, Param}
use Rattle.smt_terms.specs.declared.node.Node.{Node}
use Rattle.smt_terms.specs.Nodes.{node_at}
use Rattle.smt_terms.specs.Terms.{op_rank, sort_of}
use Rattle.smt_terms.specs.Values.{HasSort, Interpretation, op_value, value}
use Rattle.smt_values.specs.declared.value.Value.{Value}
use Rattle.smt_values.specs.declared.value.Value.TheVariants as held
use Rattle.smt_values.specs.Held.{meaning, set_for, Suits, IsOfSort}

-- the value that is held for a term
abbrev pub held_value : List Value → ℕ → Value
held_value values t = slice_index_or values t (held.Bool false)

-- the value of each term under an interpretation, of the kind that its sort has
pub record AreValues (M : Interpretation) (nodes : List Node) (values : List Value) : Type 0 where
  pub count : length values ≡ length nodes
  pub means : (t : ℕ) → t < length nodes → meaning (held_value values t) ≡ value M nodes t
  pub sorted : (t : ℕ) → t < length nodes → IsOfSort (sort_of nodes t) (held_value values t)

-- an array that is set for the declaration of a constant has the widths of its sort
abbrev pub IsSuited : Op → List (Option Value) → Type 0
IsSuited (Plain o) values = Unit {0}
IsSuited (Word n x) values = Unit {0}
IsSuited (Extract i j) values = Unit {0}
IsSuited (ZeroExtend i) values = Unit {0}
IsSuited (SignExtend i) values = Unit {0}
IsSuited (RotateLeft i) values = Unit {0}
IsSuited (RotateRight i) values = Unit {0}
IsSuited (Repeat i) values = Unit {0}
IsSuited (ConstantArray k) values = Unit {0}
IsSuited (Constant d s) values = Suits s (set_for values d)
IsSuited (Apply d s) values = Unit {0}
IsSuited (Param k s) values = Unit {0}

-- the same for every constant of these terms
abbrev pub AreSuited : List Node → List (Option Value) → Type 0
AreSuited nodes values = (t : ℕ) → t < length nodes → IsSuited (node_at nodes t).op values

-- ---- one term

abbrev pub is_table : Value → Bool
is_table (held.Bool b) = false
is_table (held.Word w) = false
is_table (held.Array a) = false
is_table (held.Fun t) = true

abbrev pub holds_array : Value → Bool
holds_array (held.Bool b) = false
holds_array (held.Word w) = false
holds_array (held.Array a) = true
holds_array (held.Fun t) = false

abbrev pub kind_of : Value → Sort
kind_of (held.Bool b) = sort.Bool
kind_of (held.Word w) = sort.Word w.width
kind_of (held.Array a) = sort.Array a.index a.default.width
kind_of (held.Fun t) = sort.Bool

-- a value of a term
pub record IsTyped (v : Value) : Type 0 where
  pub plain : is_table v ≡ false
  pub sorted : HasSort (kind_of v) (meaning v)

-- the values that are held for the arguments
abbrev pub given : List Value → List ℕ → List Value
given values args = map (held_value values) args

-- values that an operator takes
pub record AreTaken (op : Op) (vs : List Value) : Type 0 where
  pub typed : AllByRecursion IsTyped vs
  pub rank : IsOk (op_rank op (map kind_of vs))

-- what an operator gives for these values
pub record IsGiven (M : Interpretation) (op : Op) (vs : List Value) (v : Value) : Type 0 where
  pub plain : is_table v ≡ false
  pub value : meaning v ≡ op_value M op (map meaning vs)
