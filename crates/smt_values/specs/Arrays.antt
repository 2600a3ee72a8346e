-- Array values: a default, and an element for each of finitely many indexes (SMT-LIB 2.6, theory ArraysEx).
use Rattle.std.specs.Prelude.{◌≡◌, ℕ, zero, suc, ◌<◌, ◌≤◌, ◌^◌, ◌==◌, nat_lt, if◌then◌else◌, List, [], ◌∷◌, map, Option, Some, None}
use Rattle.std.specs.List.{AllByRecursion}
use Rattle.smt_words.specs.Words.{WordValue, IsWidth}
use Rattle.smt_terms.specs.Values.{Elements, held_at, Value, VArray}

-- an index and its element
abbrev pub Entry : Type 0
Entry = WordValue × WordValue

-- the width of the indexes, the element at every index that is not held, and the held indexes with their elements
pub record ArrayFields : Type 0 where
  pub index : ℕ
  pub default : WordValue
  pub entries : List Entry

-- the entry of an index
abbrev pub entry_at : List Entry → ℕ → Option Entry
entry_at [] i = None
entry_at (e ∷ es) i = if e.0.value == i then Some e else entry_at es i

-- the element of an entry, or the default
abbrev pub element_of : ℕ → Option Entry → ℕ
element_of d None = d
element_of d (Some e) = e.1.value

abbrev pub pair_of : Entry → ℕ × ℕ
pair_of e = (e.0.value, e.1.value)

-- the elements as numbers
abbrev pub elements_of : ArrayFields → Elements
elements_of a = record { default = a.default.value; entries = map pair_of a.entries }

abbrev pub element_at : ArrayFields → ℕ → ℕ
element_at a i = held_at (elements_of a) i

-- the array of the theory
abbrev pub array_value : ArrayFields → Value
array_value a = VArray a.index a.default.width (elements_of a)

-- ---- arrays that code holds

-- a word of a width
pub record IsOfWidth (n : ℕ) (w : WordValue) : Type 0 where
  pub width : w.width ≡ n
  pub fits : w.value < 2 ^ n

-- an index and an element of these widths
abbrev pub IsEntry : ℕ → ℕ → Entry → Type 0
IsEntry n m e = IsOfWidth n e.0 × IsOfWidth m e.1

-- the indexes rise, so that none is held twice
abbrev pub AreRising : List Entry → Type 0
AreRising [] = Unit {0}
AreRising (e ∷ es) = AllByRecursion (λ f. e.0.value < f.0.value) es × AreRising es

pub record IsArray (a : ArrayFields) : Type 0 where
  pub index : IsWidth a.index
  pub element : IsWidth a.default.width
  pub default : IsOfWidth a.default.width a.default
  pub entries : AllByRecursion (IsEntry a.index a.default.width) a.entries
  pub rising : AreRising a.entries

-- the array with this element at every index
abbrev pub constant_array : ℕ → WordValue → ArrayFields
constant_array n d = record { index = n; default = d; entries = [] }

-- the entries with one more, in the place of the one that held its index, or where its index stands in the order
abbrev pub entered : List Entry → Entry → List Entry
entered [] f = f ∷ []
entered (e ∷ es) f = if e.0.value == f.0.value then f ∷ es else if nat_lt f.0.value e.0.value then f ∷ e ∷ es else e ∷ entered es f

abbrev pub with_element : ArrayFields → WordValue → WordValue → ArrayFields
with_element a i x = record { index = a.index; default = a.default; entries = entered a.entries (i, x) }

-- an entry, if it has this index
abbrev pub matching : ℕ → Option Entry → Option Entry
matching i None = None
matching i (Some e) = if e.0.value == i then Some e else None

-- so many entries have a lower index, and no other
abbrev pub Splits : List Entry → ℕ → ℕ → Type 0
Splits es i zero = AllByRecursion (λ e. i ≤ e.0.value) es
Splits [] i (suc p) = ⊥
Splits (e ∷ es) i (suc p) = (e.0.value < i) × Splits es i p
