-- Drafts of interpretations: what is set for declarations while one is made.
use Rattle.std.specs.Prelude.{◌≡◌, ◌⊎◌, ℕ, ◌<◌, ◌==◌, if◌then◌else◌, Bool, true, false, length, List, [], map, Option, Some, None, slice_get}
use Rattle.smt_words.specs.Words.{WordValue, word}
use Rattle.smt_terms.specs.declared.sort.Sort.{Sort}
use Rattle.smt_terms.specs.declared.sort.Sort.TheVariants as sort
use Rattle.smt_terms.specs.declared.scalar.Scalar.{Scalar}
use Rattle.smt_terms.specs.declared.scalar.Scalar.TheVariants as scalar
use Rattle.smt_terms.specs.declared.node.Node.{Node}
use Rattle.smt_terms.specs.Nodes.{node_at}
use Rattle.smt_terms.specs.Scalars.{scalar_value}
use Rattle.smt_terms.specs.Bits.{TermBits, image_in}
use Rattle.smt_terms.specs.Values as of
use Rattle.smt_values.specs.declared.value.Value.{Value}
use Rattle.smt_values.specs.declared.value.Value.TheVariants as held
use Rattle.smt_values.specs.Arrays.{ArrayFields, IsArray, IsOfWidth, element_at, with_element, constant_array}
use Rattle.smt_values.specs.Tables.{TableFields, table_value, constant_table, with_row}
use Rattle.smt_values.specs.Readings.{scalar_read}
use Rattle.smt_values.specs.Held.{meaning, set_for, IsOfSort}
use Rattle.theory_terms.specs.declared.shape.Shape.{Shape}
use Rattle.theory_terms.specs.declared.shape.Shape.TheVariants.{Selecting, Storing, Filling, Choosing, Equating, Witnessing, Applying, Declaring, Other}
use Rattle.theory_terms.specs.declared.atom.Landing.{Landing}
use Rattle.theory_terms.specs.Shapes.{shape_at}
use Rattle.access_tables.specs.Tables.{Says, Has, default_at}
use Rattle.smt_terms.specs.Ranks.{is_plain}
use Rattle.smt_terms.specs.Terms.{sort_of, signature_of}
use Rattle.access_tables.specs.Held.{TableValue, spare_in, HasRow, assigned_value}
use Rattle.model_build.specs.Sorted.{IsOwnTerm, IsTermOf, IsOfSignature}

-- ---- terms and accesses

-- a held Bool or word that has bits
abbrev pub IsPlainTerm : List Node → List TermBits → ℕ → Type 0
IsPlainTerm nodes bits t = (t < length nodes) × (is_plain (sort_of nodes t) ≡ true) × HasRow nodes bits t

-- ---- what is done to a draft

-- one declaration has this value
abbrev pub Sets : ℕ → (Option Value → Option Value) → List (Option Value) → List (Option Value) → Type 0
Sets d change old new = (e : ℕ) → set_for new e ≡ (if e == d then change (set_for old e) else set_for old e)

-- nothing has changed
abbrev pub Stays : List (Option Value) → List (Option Value) → Type 0
Stays old new = (e : ℕ) → set_for new e ≡ set_for old e

-- an array with one element more; what is no array stays
abbrev pub entered_in : WordValue → WordValue → Option Value → Option Value
entered_in i x None = None
entered_in i x (Some (held.Bool b)) = Some (held.Bool b)
entered_in i x (Some (held.Word w)) = Some (held.Word w)
entered_in i x (Some (held.Array a)) = Some (held.Array (with_element a i x))
entered_in i x (Some (held.Fun t)) = Some (held.Fun t)

-- an array takes an element of its width at an index of its width
abbrev pub Takes : WordValue → WordValue → Option Value → Type 0
Takes i x None = Unit {0}
Takes i x (Some (held.Bool b)) = Unit {0}
Takes i x (Some (held.Word w)) = Unit {0}
Takes i x (Some (held.Array a)) = IsOfWidth a.index i × IsOfWidth a.default.width x
Takes i x (Some (held.Fun t)) = Unit {0}

-- a table; in the place of what is none, one that has this value everywhere
abbrev pub table_of : Scalar → Option Value → TableFields
table_of z None = constant_table z
table_of z (Some (held.Bool b)) = constant_table z
table_of z (Some (held.Word w)) = constant_table z
table_of z (Some (held.Array a)) = constant_table z
table_of z (Some (held.Fun t)) = t

-- a table with one row more
abbrev pub rowed_in : Scalar → List Scalar → Scalar → Option Value → Option Value
rowed_in z args x o = Some (held.Fun (with_row (table_of z o) args x))

-- false, or the word zero
abbrev pub zero_of : Sort → Scalar
zero_of q = scalar_read q (scalar.Bool false)

-- ---- one term

-- a value for a constant of this sort: of a Bool or a word this one, of an array zeros
abbrev pub IsFirstOf : of.Value → Sort → Value → Type 0
IsFirstOf x sort.Bool v = (meaning v ≡ x) × IsOfSort sort.Bool v
IsFirstOf x (sort.Word n) v = (meaning v ≡ x) × IsOfSort (sort.Word n) v
IsFirstOf x (sort.Array n m) v = v ≡ held.Array (constant_array n (word m 0))

-- the declared constant has its first value
pub record EntersConstant (x : of.Value) (d : ℕ) (q : Sort) (old new : List (Option Value)) : Type 0 where
  pub value : Value
  pub first : IsFirstOf x q value
  pub sets : Sets d (λ o. Some value) old new

-- the function of values of this sort has a row for these arguments
pub record EntersRow (vs : List of.Value) (x : of.Value) (q : Sort) (d : ℕ) (old new : List (Option Value)) : Type 0 where
  pub args : List Scalar
  pub value : Scalar
  pub are : map scalar_value args ≡ vs
  pub is : scalar_value value ≡ x
  pub sets : Sets d (rowed_in (zero_of q) args value) old new

abbrev pub EntersShape : List Node → (ℕ → of.Value) → ℕ → Shape → List (Option Value) → List (Option Value) → Type 0
EntersShape nodes val t (Selecting a i) old new = Stays old new
EntersShape nodes val t (Storing b j x) old new = Stays old new
EntersShape nodes val t (Filling x) old new = Stays old new
EntersShape nodes val t (Choosing c a b) old new = Stays old new
EntersShape nodes val t (Equating a b) old new = Stays old new
EntersShape nodes val t (Witnessing a b) old new = Stays old new
EntersShape nodes val t (Applying d) old new = EntersRow (map val (node_at nodes t).args) (val t) (sort_of nodes t) d old new
EntersShape nodes val t (Declaring d q) old new = EntersConstant (val t) d q old new
EntersShape nodes val t Other old new = Stays old new

abbrev pub EntersBy : List Node → (ℕ → of.Value) → ℕ → Option ℕ → List (Option Value) → List (Option Value) → Type 0
EntersBy nodes val t (Some u) old new = Stays old new
EntersBy nodes val t None old new = EntersShape nodes val t (shape_at nodes t) old new

-- the term without an image is entered, if it is a declared constant or an application
abbrev pub Enters : List Node → List TermBits → (ℕ → Bool) → ℕ → List (Option Value) → List (Option Value) → Type 0
Enters nodes bits f t old new = EntersBy nodes (assigned_value nodes bits f) t (image_in bits t) old new

-- ---- one access

-- the access is of a declared array with these widths
abbrev pub RowShape : (ℕ → ℕ → ℕ → Type 0) → Type 0 → Shape → Type 0
RowShape declared other (Declaring d sort.Bool) = other
RowShape declared other (Declaring d (sort.Word n)) = other
RowShape declared other (Declaring d (sort.Array n m)) = declared d n m
RowShape declared other (Selecting a i) = other
RowShape declared other (Storing b j x) = other
RowShape declared other (Filling x) = other
RowShape declared other (Choosing c a b) = other
RowShape declared other (Equating a b) = other
RowShape declared other (Witnessing a b) = other
RowShape declared other (Applying d) = other
RowShape declared other Other = other

-- the array has the word of the access at every index, if the index of the access is the spare one
abbrev pub SetsDefault : (ℕ → of.Value) → List WordValue → Landing → ℕ → ℕ → ℕ → List (Option Value) → List (Option Value) → Type 0
SetsDefault val spares r d n m old new =
    ((spare_in spares n ≡ Some (of.number_of (val r.index))) × Sets d (λ o. Some (held.Array (constant_array n (word m (of.number_of (val r.value)))))) old new)
    ⊎ ((spare_in spares n ≡ Some (of.number_of (val r.index)) → ⊥) × Stays old new)

abbrev pub GivesDefault : List Node → (ℕ → of.Value) → List WordValue → Landing → List (Option Value) → List (Option Value) → Type 0
GivesDefault nodes val spares r old new = RowShape (λ d n m. SetsDefault val spares r d n m old new) (Stays old new) (shape_at nodes r.array)

-- the array has the word of the access at its index
abbrev pub SetsElement : (ℕ → of.Value) → Landing → ℕ → ℕ → ℕ → List (Option Value) → List (Option Value) → Type 0
SetsElement val r d n m old new = Sets d (entered_in (word n (of.number_of (val r.index))) (word m (of.number_of (val r.value)))) old new

abbrev pub GivesElement : List Node → (ℕ → of.Value) → Landing → List (Option Value) → List (Option Value) → Type 0
GivesElement nodes val r old new =
    RowShape (λ d n m. SetsElement val r d n m old new) (Stays old new) (shape_at nodes r.array)

-- the draft has an array of these widths
abbrev pub IsOpenArray : List (Option Value) → ℕ → ℕ → ℕ → Type 0
IsOpenArray values d n m = (a : ArrayFields) × (set_for values d ≡ Some (held.Array a)) × (a.index ≡ n) × (a.default.width ≡ m)

-- the draft has for the array of the access, if it is declared, an array of its widths
abbrev pub IsOpen : List Node → Landing → List (Option Value) → Type 0
IsOpen nodes r values = RowShape (λ d n m. IsOpenArray values d n m) (Unit {0}) (shape_at nodes r.array)

-- ---- what a draft has

-- one of the first so many accesses
abbrev pub HasIn : (ℕ → of.Value) → List Landing → ℕ → ℕ → ℕ → ℕ → Type 0
HasIn val rows count a k x = (j : ℕ) × (r : Landing) × (j < count) × (slice_get rows j ≡ Some r) × Says val r a k x

abbrev pub HoldsValue : List (Option Value) → ℕ → of.Value → Type 0
HoldsValue values d x = (v : Value) × (set_for values d ≡ Some v) × (meaning v ≡ x)

pub record HoldsRow (values : List (Option Value)) (d : ℕ) (vs : List of.Value) (x : of.Value) : Type 0 where
  pub table : TableFields
  pub args : List Scalar
  pub set : set_for values d ≡ Some (held.Fun table)
  pub are : map scalar_value args ≡ vs
  pub is : table_value table (map scalar_value args) ≡ x

-- an array of these widths that meets the condition
pub record HoldsArray (values : List (Option Value)) (d n m : ℕ) (Is : ArrayFields → Type 0) : Type 0 where
  pub array : ArrayFields
  pub set : set_for values d ≡ Some (held.Array array)
  pub index : array.index ≡ n
  pub element : array.default.width ≡ m
  pub well : IsArray array
  pub is : Is array

-- what a draft has for a term of this shape, where arrays meet a condition by their term
abbrev pub HoldsShape : (ℕ → ArrayFields → Type 0) → List Node → (ℕ → of.Value) → List (Option Value) → ℕ → Shape → Type 0
HoldsShape Is nodes val values t (Declaring d sort.Bool) = HoldsValue values d (val t)
HoldsShape Is nodes val values t (Declaring d (sort.Word n)) = HoldsValue values d (val t)
HoldsShape Is nodes val values t (Declaring d (sort.Array n m)) = HoldsArray values d n m (Is t)
HoldsShape Is nodes val values t (Applying d) = HoldsRow values d (map val (node_at nodes t).args) (val t)
HoldsShape Is nodes val values t (Selecting a i) = Unit {0}
HoldsShape Is nodes val values t (Storing b j x) = Unit {0}
HoldsShape Is nodes val values t (Filling x) = Unit {0}
HoldsShape Is nodes val values t (Choosing c a b) = Unit {0}
HoldsShape Is nodes val values t (Equating a b) = Unit {0}
HoldsShape Is nodes val values t (Witnessing a b) = Unit {0}
HoldsShape Is nodes val values t Other = Unit {0}

-- what it has for the first so many terms, but for those with images
abbrev pub Holds : (ℕ → ArrayFields → Type 0) → List Node → List TermBits → (ℕ → Bool) → List ℕ → ℕ → List (Option Value) → Type 0
Holds Is nodes bits f terms count values =
    (j t : ℕ) → j < count → slice_get terms j ≡ Some t → image_in bits t ≡ None → HoldsShape Is nodes (assigned_value nodes bits f) values t (shape_at nodes t)

-- An array without entries. Its element is that of one of the first so many accesses at the spare index, if there is one; it
-- is zero, or that of some access there.
pub record IsUniform (nodes : List Node) (val : ℕ → of.Value) (table : TableValue) (count t : ℕ) (a : ArrayFields) : Type 0 where
  pub entries : a.entries ≡ []
  pub found : (k x : ℕ) → spare_in table.spares a.index ≡ Some k → HasIn val table.rows count t k x → a.default.value ≡ x
  pub from : (a.default.value ≡ 0) ⊎ ((k : ℕ) × (spare_in table.spares a.index ≡ Some k) × Has val table.rows t k a.default.value)

-- an array with the words of the first so many accesses, and the table's default at every other index
pub record IsFilled (nodes : List Node) (val : ℕ → of.Value) (table : TableValue) (count t : ℕ) (a : ArrayFields) : Type 0 where
  pub entries : (k x : ℕ) → HasIn val table.rows count t k x → element_at a k ≡ x
  pub others : (k : ℕ) → ((x : ℕ) → HasIn val table.rows count t k x → ⊥) → element_at a k ≡ default_at nodes val table.rows (spare_in table.spares) t

-- the draft has a value for each declaration of the table's terms, and in arrays the defaults of so many accesses
abbrev pub HasDefaults : List Node → List TermBits → (ℕ → Bool) → TableValue → ℕ → ℕ → List (Option Value) → Type 0
HasDefaults nodes bits f table terms rows values = Holds (IsUniform nodes (assigned_value nodes bits f) table rows) nodes bits f table.terms terms values

-- and the elements of so many accesses
abbrev pub HasElements : List Node → List TermBits → (ℕ → Bool) → TableValue → ℕ → ℕ → List (Option Value) → Type 0
HasElements nodes bits f table terms rows values = Holds (IsFilled nodes (assigned_value nodes bits f) table rows) nodes bits f table.terms terms values

-- each value of the draft is of a declaration that one of the terms without an image names, and one that it may have
abbrev pub AreSorted : List Node → List TermBits → List ℕ → List (Option Value) → Type 0
AreSorted nodes bits terms values =
    (d : ℕ) (v : Value) → set_for values d ≡ Some v → (t : ℕ) × IsOwnTerm bits terms t × IsTermOf nodes t d × IsOfSignature (signature_of (node_at nodes t).op) v
