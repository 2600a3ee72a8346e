-- Tables read at a sort.
use Rattle.std.proofs.Common.{◌≡◌, ℕ, ◌+◌, ◌<◌, Bool, true, false, List, [], ◌∷◌, ◌++◌, length, map, get_or, take, refl, ap, sym, ◌∙◌, add-one, inl, inr, Option, Some}
use Rattle.std.specs.Prelude.{if◌then◌else◌, ◌⊎◌}
use Rattle.std.specs.List.{AllByRecursion}
use Rattle.std.specs.declared.cmp.Ordering.TheVariants.{Less}
use Rattle.std.proofs.Math.Seq.{take-suc}
use Rattle.std.proofs.lemmas.List.{map-append}
use Rattle.smt_terms.specs.declared.sort.Sort.{Sort}
use Rattle.smt_terms.specs.declared.sort.Sort.TheVariants as sort
use Rattle.smt_terms.specs.declared.scalar.Scalar.{Scalar}
use Rattle.smt_terms.specs.declared.scalar.Scalar.TheVariants as scalar
use Rattle.smt_terms.specs.Ranks.{is_plain}
use Rattle.smt_terms.specs.Scalars.{scalar_value}
use Rattle.smt_terms.specs.Values as of
use Rattle.smt_values.specs.declared.table.Row.{Row}
use Rattle.smt_values.specs.Tables.{TableFields, same_values, value_for, table_value, args_cmp, AreRowsRising}
use Rattle.smt_values.specs.declared.value.Value.{Value}
use Rattle.smt_values.specs.declared.value.Value.TheVariants as held
use Rattle.smt_values.specs.Held.{function_of}
use Rattle.smt_values.specs.Readings.{scalar_read, row_read, table_read}

pub scalar_read_value : (s : Sort) (x : Scalar) → is_plain s ≡ true → scalar_value (scalar_read s x) ≡ of.read_at s (scalar_value x)
scalar_read_value sort.Bool (scalar.Bool b) p = refl
scalar_read_value sort.Bool (scalar.Word w) p = refl
scalar_read_value (sort.Word n) (scalar.Bool b) p = refl
scalar_read_value (sort.Word n) (scalar.Word w) p = refl
scalar_read_value (sort.Array n m) x p = let q : ⊥ = cc in absurd q

if_read : (s : Sort) (b : Bool) (x : Scalar) (v w : of.Value) → is_plain s ≡ true → v ≡ of.read_at s w → (if b then scalar_value (scalar_read s x) else v) ≡ of.read_at s (if b then scalar_value x else w)
if_read s true x v w p e = scalar_read_value s x p
if_read s false x v w p e = e

rows_read : (s : Sort) (d : Scalar) (rs : List Row) (vs : List of.Value) → is_plain s ≡ true → value_for (scalar_value (scalar_read s d)) (map (row_read s) rs) vs ≡ of.read_at s (value_for (scalar_value d) rs vs)
rows_read s d [] vs p = scalar_read_value s d p
rows_read s d (r ∷ rs) vs p = if_read s (same_values (map scalar_value r.args) vs) r.value _ _ p (rows_read s d rs vs p)

-- a table that is read at a sort is the function read there
pub table_read_value : (s : Sort) (t : TableFields) (vs : List of.Value) → is_plain s ≡ true → table_value (table_read s t) vs ≡ of.read_at s (table_value t vs)
table_read_value s t vs p = rows_read s t.default t.rows vs p

rising_each : (s : Sort) (r : Row) (rs : List Row) → AllByRecursion (λ q. args_cmp r.args q.args ≡ Less) rs → AllByRecursion (λ q. args_cmp r.args q.args ≡ Less) (map (row_read s) rs)
rising_each s r [] h = tt
rising_each s r (q ∷ rs) h = (h.0, rising_each s r rs h.1)

pub rows_read_rising : (s : Sort) (rs : List Row) → AreRowsRising rs → AreRowsRising (map (row_read s) rs)
rows_read_rising s [] h = tt
rows_read_rising s (r ∷ rs) h = (rising_each s r rs h.0, rows_read_rising s rs h.1)

pub row_read_more : (s : Sort) (rs done : List Row) (k : ℕ) (r : Row) → done ≡ map (row_read s) (take k rs) → k < length rs → r ≡ get_or rs k r → done ++ row_read s r ∷ [] ≡ map (row_read s) (take (k + 1) rs)
row_read_more s rs done k r h lt e =
    ap (λ l. l ++ row_read s r ∷ []) h
    ∙ ap (λ q. map (row_read s) (take k rs) ++ row_read s q ∷ []) e
    ∙ sym (map-append (row_read s) (take k rs) (get_or rs k r ∷ []))
    ∙ ap (map (row_read s)) (sym (take-suc rs k r lt))
    ∙ ap (λ n. map (row_read s) (take n rs)) (sym (add-one k))

pub function_read : (s : Sort) (t r : TableFields) (o : Option Value) (vs : List of.Value) → is_plain s ≡ true → r ≡ table_read s t → Some (held.Fun t) ≡ o → table_value r vs ≡ of.read_at s (function_of o vs)
function_read s t r o vs p e g = ap (λ x. table_value x vs) e ∙ table_read_value s t vs p ∙ ap (λ x. of.read_at s (function_of x vs)) g

pub plain_unless : {A B : Type 0} → A ⊎ B → ¬ B → A
plain_unless (inl a) n = a
plain_unless (inr b) n = absurd (n b)
