-- Values of sorts, and tables of signatures with one row more.
use Rattle.std.proofs.Common.{◌≡◌, ℕ, ◌<◌, ◌^◌, Bool, true, false, List, [], ◌∷◌, refl, sym, ap, ◌∙◌, subst}
use Rattle.std.specs.Prelude.{if◌then◌else◌, map, Some}
use Rattle.std.specs.List.{AllByRecursion}
use Rattle.std.specs.Ordering.{is_eq, is_lt}
use Rattle.std.proofs.lemmas.Nat.{pow_pos}
use Rattle.smt_words.specs.Words.{WordValue, IsWidth, IsWord, word}
use Rattle.smt_terms.specs.declared.sort.Sort.{Sort}
use Rattle.smt_terms.specs.declared.sort.Sort.TheVariants as sort
use Rattle.smt_terms.specs.declared.sort.Signature.{Signature}
use Rattle.smt_terms.specs.declared.scalar.Scalar.{Scalar}
use Rattle.smt_terms.specs.declared.scalar.Scalar.TheVariants as scalar
use Rattle.smt_terms.specs.Scalars.{scalar_value}
use Rattle.smt_terms.specs.Terms.{IsSort}
use Rattle.smt_terms.specs.Values as of
use Rattle.smt_terms.specs.Values.{HasSort}
use Rattle.smt_values.specs.declared.table.Row.{Row}
use Rattle.smt_values.specs.declared.value.Value.{Value}
use Rattle.smt_values.specs.declared.value.Value.TheVariants as held
use Rattle.smt_values.specs.Arrays.{IsArray, IsOfWidth, constant_array, with_element}
use Rattle.smt_values.specs.Tables.{TableFields, args_cmp, entered_row, constant_table, with_row}
use Rattle.smt_values.specs.Held.{meaning, value_of, IsOfSort}
use Rattle.smt_values.proofs.Reading.{entered_array}
use Rattle.smt_values.proofs.Rows.{row_entered_rising}
use Rattle.theory_terms.specs.Shapes.{IsPlain}
use Rattle.model_build.specs.Sorted.{IsValueOf, AreValuesOf, IsRowOf, IsTableOf, IsOfArguments, IsOfSignature}
use Rattle.model_build.specs.Drafts.{zero_of, entered_in}

-- ---- arrays

-- an array of one word
pub constant_is_array : (n m x : ℕ) → IsWidth n → IsWidth m → x < 2 ^ m → IsArray (constant_array n (word m x))
constant_is_array n m x p q lt = record { index = p; element = q; default = record { width = refl; fits = lt }; entries = tt; rising = tt }

-- an array of a sort has it with one element more
pub element_entered : (n m i x : ℕ) (v w : Value) → i < 2 ^ n → x < 2 ^ m → IsValueOf (sort.Array n m) v → entered_in (word n i) (word m x) (Some v) ≡ Some w → IsValueOf (sort.Array n m) w
element_entered n m i x (held.Array a) w li lx k e =
    let widths : sort.Array n m ≡ sort.Array a.index a.default.width = k.0 in
    let p : n ≡ a.index = cc in
    let q : m ≡ a.default.width = cc in
    let at : IsOfWidth a.index (word n i) = record { width = p; fits = subst (λ z. i < 2 ^ z) p li } in
    let with : IsOfWidth a.default.width (word m x) = record { width = q; fits = subst (λ z. x < 2 ^ z) q lx } in
    let same : held.Array (with_element a (word n i) (word m x)) ≡ w = cc in
    subst (IsValueOf (sort.Array n m)) same (k.0, entered_array a.index a.default a.entries (word n i) (word m x) k.1 at with)
element_entered n m i x (held.Bool b) w li lx k e = let z : sort.Array n m ≡ sort.Bool = k.0 in let f : ⊥ = cc in absurd f
element_entered n m i x (held.Word u) w li lx k e = let z : sort.Array n m ≡ sort.Word u.width = k.0 in let f : ⊥ = cc in absurd f
element_entered n m i x (held.Fun t) w li lx k e = absurd k.0

-- ---- truth values and words

word_made : (n x : ℕ) (u : WordValue) → u.width ≡ n → u.value ≡ x → IsWidth n → x < 2 ^ n → IsWord u.width u.value
word_made n x u p q w lt = subst (λ k. IsWord k u.value) (sym p) (subst (IsWord n) (sym q) (w.0, w.1, lt))

-- a truth value or a word that is a value of its sort
pub scalar_sorted : (q : Sort) (s : Scalar) (x : of.Value) → IsPlain q → IsSort q → scalar_value s ≡ x → HasSort q x → IsValueOf q (value_of s)
scalar_sorted sort.Bool (scalar.Bool b) x p w e h = (refl, tt)
scalar_sorted sort.Bool (scalar.Word u) x p w e h = let z : of.VWord u.width u.value ≡ of.VBool h.0 = e ∙ h.1 in let f : ⊥ = cc in absurd f
scalar_sorted (sort.Word n) (scalar.Bool b) x p w e h = let z : of.VBool b ≡ of.VWord n h.0 = e ∙ h.1 in let f : ⊥ = cc in absurd f
scalar_sorted (sort.Word n) (scalar.Word u) x p w e h =
    let both : of.VWord u.width u.value ≡ of.VWord n h.0 = e ∙ h.1 in
    let width : u.width ≡ n = cc in
    let value : u.value ≡ h.0 = cc in
    (ap sort.Word (sym width), word_made n h.0 u width value w h.2)
scalar_sorted (sort.Array n m) s x p w e h = absurd p

-- a value of the kind of such a sort that means one of its values
pub value_sorted : (q : Sort) (v : Value) (x : of.Value) → IsPlain q → IsSort q → IsOfSort q v → meaning v ≡ x → HasSort q x → IsValueOf q v
value_sorted q (held.Bool b) x p w s e h = (s, tt)
value_sorted (sort.Word n) (held.Word u) x p w s e h = scalar_sorted (sort.Word n) (scalar.Word u) x p w e h
value_sorted sort.Bool (held.Word u) x p w s e h = let f : ⊥ = cc in absurd f
value_sorted sort.Bool (held.Array a) x p w s e h = let f : ⊥ = cc in absurd f
value_sorted (sort.Word n) (held.Array a) x p w s e h = let f : ⊥ = cc in absurd f
value_sorted (sort.Array n m) v x p w s e h = absurd p
value_sorted q (held.Fun t) x p w s e h = absurd s

-- false and the word zero
pub zero_sorted : (q : Sort) → IsPlain q → IsSort q → IsValueOf q (value_of (zero_of q))
zero_sorted sort.Bool p w = (refl, tt)
zero_sorted (sort.Word n) p w = (refl, (w.0, w.1, pow_pos n))
zero_sorted (sort.Array n m) p w = absurd p

-- truth values and words that are values of these terms
pub arguments_sorted : (sort_at : ℕ → Sort) (val : ℕ → of.Value) (args : List ℕ) (xs : List Scalar) → AllByRecursion (λ a. IsPlain (sort_at a) × IsSort (sort_at a) × HasSort (sort_at a) (val a)) args
    → map scalar_value xs ≡ map val args → AreValuesOf (map sort_at args) xs
arguments_sorted sort_at val [] [] h e = tt
arguments_sorted sort_at val [] (x ∷ xs) h e = let f : ⊥ = cc in absurd f
arguments_sorted sort_at val (a ∷ args) [] h e = let f : ⊥ = cc in absurd f
arguments_sorted sort_at val (a ∷ args) (x ∷ xs) h e =
    let first : scalar_value x ≡ val a = cc in
    let rest : map scalar_value xs ≡ map val args = cc in
    (scalar_sorted (sort_at a) x (val a) h.0.0 h.0.1 first h.0.2, arguments_sorted sort_at val args xs h.1 rest)

-- ---- tables

entered_each : (P : Row → Type 0) (f : Row) (rs : List Row) → P f → AllByRecursion P rs → AllByRecursion P (entered_row rs f)
entered_each P f [] own h = (own, tt)
entered_each P f (r ∷ rs) own h = go (is_eq (args_cmp r.args f.args)) (is_lt (args_cmp r.args f.args)) (entered_each P f rs own h.1) where
  go : (a b : Bool) → AllByRecursion P (entered_row rs f) → AllByRecursion P (if a then f ∷ rs else if b then r ∷ entered_row rs f else f ∷ r ∷ rs)
  go true b rest = (own, h.1)
  go false true rest = (h.0, rest)
  go false false rest = (own, h)

-- a table with one row more
pub row_entered : (g : Signature) (t : TableFields) (args : List Scalar) (x : Scalar) → IsTableOf g t → AreValuesOf g.args args → IsValueOf g.value (value_of x) → IsTableOf g (with_row t args x)
row_entered g t args x h these is = record {
  default = h.default;
  rows = entered_each (IsRowOf g) (record { args = args; value = x }) t.rows (these, is) h.rows;
  rising = row_entered_rising (record { args = args; value = x }) t.rows h.rising;
}

pub constant_table_sorted : (g : Signature) (x : Scalar) → IsValueOf g.value (value_of x) → IsTableOf g (constant_table x)
constant_table_sorted g x h = record { default = h; rows = tt; rising = tt }

-- a function has arguments, so its value is a table
pub table_sorted : (g : Signature) (t : TableFields) → (g.args ≡ [] → ⊥) → IsTableOf g t → IsOfSignature g (held.Fun t)
table_sorted g t some h = go g.args refl where
  go : (qs : List Sort) → g.args ≡ qs → IsOfArguments qs g (held.Fun t)
  go [] e = absurd (some e)
  go (q ∷ qs) e = h

pub sorted_table : (g : Signature) (v : Value) → (g.args ≡ [] → ⊥) → IsOfSignature g v → (t : TableFields) × (v ≡ held.Fun t) × IsTableOf g t
sorted_table g v some h = go g.args v refl h where
  go : (qs : List Sort) (v : Value) → g.args ≡ qs → IsOfArguments qs g v → (t : TableFields) × (v ≡ held.Fun t) × IsTableOf g t
  go [] v e k = absurd (some e)
  go (q ∷ qs) (held.Fun t) e k = (t, refl, k)
  go (q ∷ qs) (held.Bool b) e k = absurd k
  go (q ∷ qs) (held.Word w) e k = absurd k
  go (q ∷ qs) (held.Array a) e k = absurd k
