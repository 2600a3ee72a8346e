-- Function values: a default, and a value for each of finitely many lists of arguments (SMT-LIB 2.6, section 5.3).
use Rattle.std.specs.Prelude.{◌≡◌, ℕ, zero, suc, ◌&&◌, Bool, true, false, if◌then◌else◌, List, [], ◌∷◌, map, Option, Some, None}
use Rattle.std.specs.List.{AllByRecursion}
use Rattle.std.specs.Ordering.{nat_cmp, ordering_then, is_eq, is_lt}
use Rattle.std.specs.Cmp.Lexicographic.{slice_cmp}
use Rattle.std.specs.declared.cmp.Ordering.{Ordering}
use Rattle.std.specs.declared.cmp.Ordering.TheVariants.{Less}
use Rattle.smt_terms.specs.declared.scalar.Scalar.{Scalar}
use Rattle.smt_terms.specs.declared.scalar.Scalar.TheVariants as scalar
use Rattle.smt_terms.specs.Scalars.{scalar_value}
use Rattle.smt_terms.specs.Values.{Value, same_value}
use Rattle.smt_values.specs.declared.table.Row.{Row}

-- the value where no row has the arguments, and the rows
pub record TableFields : Type 0 where
  pub default : Scalar
  pub rows : List Row

abbrev pub same_values : List Value → List Value → Bool
same_values [] [] = true
same_values [] (w ∷ ws) = false
same_values (v ∷ vs) [] = false
same_values (v ∷ vs) (w ∷ ws) = same_value v w && same_values vs ws

-- the value for arguments, where d is the default
abbrev pub value_for : Value → List Row → List Value → Value
value_for d [] vs = d
value_for d (r ∷ rs) vs = if same_values (map scalar_value r.args) vs then scalar_value r.value else value_for d rs vs

-- the function of the theory
abbrev pub table_value : TableFields → List Value → Value
table_value t vs = value_for (scalar_value t.default) t.rows vs

-- ---- the order of the rows

-- truth values come first, then the words by their widths
abbrev pub rank : Scalar → ℕ
rank (scalar.Bool b) = 0
rank (scalar.Word w) = suc w.width

-- false before true, and words of a width by their values
abbrev pub number : Scalar → ℕ
number (scalar.Bool b) = if b then 1 else 0
number (scalar.Word w) = w.value

abbrev pub scalar_cmp : Scalar → Scalar → Ordering
scalar_cmp a b = ordering_then (nat_cmp (rank a) (rank b)) (nat_cmp (number a) (number b))

-- lists of arguments by the first that differ
abbrev pub args_cmp : List Scalar → List Scalar → Ordering
args_cmp = slice_cmp scalar_cmp

-- the lists of arguments rise, so that no row stands twice
abbrev pub AreRowsRising : List Row → Type 0
AreRowsRising [] = Unit {0}
AreRowsRising (r ∷ rs) = AllByRecursion (λ q. args_cmp r.args q.args ≡ Less) rs × AreRowsRising rs

-- the row of a list of arguments
abbrev pub row_at : List Row → List Scalar → Option Row
row_at [] t = None
row_at (r ∷ rs) t = if is_eq (args_cmp r.args t) then Some r else row_at rs t

-- the value of a row, or the default
abbrev pub value_in : Scalar → Option Row → Scalar
value_in d None = d
value_in d (Some r) = r.value

-- a row, if it has these arguments
abbrev pub row_matching : List Scalar → Option Row → Option Row
row_matching t None = None
row_matching t (Some r) = if is_eq (args_cmp r.args t) then Some r else None

-- the table with this value for all arguments
abbrev pub constant_table : Scalar → TableFields
constant_table d = record { default = d; rows = [] }

-- the rows with one more, in the place of the one with its arguments, or where it stands in the order
abbrev pub entered_row : List Row → Row → List Row
entered_row [] f = f ∷ []
entered_row (r ∷ rs) f = if is_eq (args_cmp r.args f.args) then f ∷ rs else if is_lt (args_cmp r.args f.args) then r ∷ entered_row rs f else f ∷ r ∷ rs

abbrev pub with_row : TableFields → List Scalar → Scalar → TableFields
with_row t args value = record { default = t.default; rows = entered_row t.rows (record { args = args; value = value }) }

-- so many rows have lower arguments, and no other
abbrev pub RowsSplit : List Row → List Scalar → ℕ → Type 0
RowsSplit rs t zero = AllByRecursion (λ r. is_lt (args_cmp r.args t) ≡ false) rs
RowsSplit [] t (suc p) = ⊥
RowsSplit (r ∷ rs) t (suc p) = (is_lt (args_cmp r.args t) ≡ true) × RowsSplit rs t p
