-- Tables of accesses of arrays, and when one is closed.
use Rattle.std.specs.Prelude.{◌≡◌, ◌⊎◌, ℕ, ◌<◌, ◌^◌, ◌==◌, ◌&&◌, false, if◌then◌else◌, List, [], ◌∷◌, map, Option, Some, None, Contains}
use Rattle.smt_terms.specs.declared.sort.Sort.{Sort}
use Rattle.smt_terms.specs.declared.sort.Sort.TheVariants as sort
use Rattle.smt_terms.specs.declared.node.Node.{Node}
use Rattle.smt_terms.specs.Nodes.{node_at}
use Rattle.smt_terms.specs.Terms.{sort_of}
use Rattle.smt_terms.specs.Values.{Value, is_true, number_of}
use Rattle.theory_terms.specs.declared.shape.Shape.TheVariants.{Filling, Equating, Applying}
use Rattle.theory_terms.specs.declared.lemma.Move.{Move}
use Rattle.theory_terms.specs.declared.atom.Landing.{Landing}
use Rattle.theory_terms.specs.declared.atom.Turn.{Turn}
use Rattle.theory_terms.specs.declared.atom.Watch.{Watch}
use Rattle.theory_terms.specs.Shapes.{shape_at}
use Rattle.theory_terms.specs.Named.{mover}
use Rattle.theory_terms.specs.Lemmas.{atom_true, start_of, turn_of, watch}
use Rattle.access_tables.specs.Ready.{IsOwn}

-- ---- accesses

-- the access is one of this array, with an index and a value of these numbers
pub record Says (val : ℕ → Value) (r : Landing) (a k x : ℕ) : Type 0 where
  pub array : r.array ≡ a
  pub index : number_of (val r.index) ≡ k
  pub value : number_of (val r.value) ≡ x

-- some access of the table is
abbrev pub Has : (ℕ → Value) → List Landing → ℕ → ℕ → ℕ → Type 0
Has val rows a k x = (r : Landing) × Contains rows r × Says val r a k x

-- ---- indexes

-- the number is the value of an index of this width: of a select or a store
abbrev pub IsTaken : List Node → (ℕ → Type 0) → (ℕ → Option ℕ) → (ℕ → Value) → ℕ → ℕ → Type 0
IsTaken nodes Here image val n k =
    (t : ℕ) × (l : Landing) × IsOwn Here image t × (start_of t (shape_at nodes t) ≡ Some l) × (sort_of nodes l.index ≡ sort.Word n) × (number_of (val l.index) ≡ k)

-- the least number of the width that no index has
pub record IsSpare (nodes : List Node) (Here : ℕ → Type 0) (image : ℕ → Option ℕ) (val : ℕ → Value) (n s : ℕ) : Type 0 where
  pub within : s < 2 ^ n
  pub apart : IsTaken nodes Here image val n s → ⊥
  pub least : (k : ℕ) → k < s → IsTaken nodes Here image val n k

-- a number at which constant arrays of this index width are looked at: that of an index, or the spare one
abbrev pub IsAsked : List Node → (ℕ → Type 0) → (ℕ → Option ℕ) → (ℕ → Value) → ℕ → ℕ → Type 0
IsAsked nodes Here image val n k = IsTaken nodes Here image val n k ⊎ IsSpare nodes Here image val n k

-- ---- closed tables

-- Selects and stores are accesses of the table, and so is a constant array with its element at each index, at the spare one,
-- and wherever it has an access; from each access those to which its open moves lead. No two accesses of one array have equal indexes and different values, no two applications equal
-- arguments and different values, and arrays that are not equal differ at their witness.
pub record IsClosedTable (nodes : List Node) (image : ℕ → Option ℕ) (Here : ℕ → Type 0) (val : ℕ → Value) (rows : List Landing) : Type 0 where
  pub starts : (t : ℕ) (l : Landing) → IsOwn Here image t → start_of t (shape_at nodes t) ≡ Some l
      → Has val rows l.array (number_of (val l.index)) (number_of (val l.value))
  pub filled : (t x n m k : ℕ) → IsOwn Here image t → shape_at nodes t ≡ Filling x → sort_of nodes t ≡ sort.Array n m → IsAsked nodes Here image val n k
      → Has val rows t k (number_of (val x))
  pub constant : (r : Landing) (x : ℕ) → Contains rows r → IsOwn Here image r.array → shape_at nodes r.array ≡ Filling x
      → Has val rows r.array (number_of (val r.index)) (number_of (val x))
  pub moves : (r : Landing) (m : Move) (w : Turn) → Contains rows r → IsOwn Here image (mover m)
      → turn_of nodes r.index r.array m ≡ Some w → atom_true val w.unless ≡ false → Has val rows w.to (number_of (val r.index)) (number_of (val r.value))
  pub consistent : (a k x y : ℕ) → Has val rows a k x → Has val rows a k y → x ≡ y
  pub congruent : (t u d : ℕ) → IsOwn Here image t → IsOwn Here image u → shape_at nodes t ≡ Applying d → shape_at nodes u ≡ Applying d
      → map val (node_at nodes t).args ≡ map val (node_at nodes u).args → val t ≡ val u
  pub differ : (t a b n m : ℕ) → IsOwn Here image t → shape_at nodes t ≡ Equating a b → sort_of nodes a ≡ sort.Array n m → is_true (val t) ≡ false
      → (w : Watch) × (watch nodes a b ≡ Some w) × (val w.left ≡ val w.right → ⊥)

-- ---- the words of a table

-- the number of the value at an index, by the first such access
abbrev pub look : (ℕ → Value) → List Landing → ℕ → ℕ → Option ℕ
look val [] a k = None
look val (r ∷ rows) a k = if (r.array == a) && (number_of (val r.index) == k) then Some (number_of (val r.value)) else look val rows a k

abbrev pub or_else : Option ℕ → ℕ → ℕ
or_else None d = d
or_else (Some x) d = x

-- the number is the spare one of the width; or none is, and every number is an index where constant arrays have this width
abbrev pub IsSpareOf : List Node → (ℕ → Type 0) → (ℕ → Option ℕ) → (ℕ → Value) → ℕ → Option ℕ → Type 0
IsSpareOf nodes Here image val n None =
    (t x m k : ℕ) → IsOwn Here image t → shape_at nodes t ≡ Filling x → sort_of nodes t ≡ sort.Array n m → k < 2 ^ n → IsTaken nodes Here image val n k
IsSpareOf nodes Here image val n (Some s) = IsSpare nodes Here image val n s

-- the spare numbers of the widths
abbrev pub AreSpare : List Node → (ℕ → Type 0) → (ℕ → Option ℕ) → (ℕ → Value) → (ℕ → Option ℕ) → Type 0
AreSpare nodes Here image val spare = (n : ℕ) → IsSpareOf nodes Here image val n (spare n)

abbrev pub index_width : Sort → ℕ
index_width sort.Bool = 0
index_width (sort.Word n) = 0
index_width (sort.Array n m) = n

abbrev pub spare_word : (ℕ → Value) → List Landing → ℕ → Option ℕ → ℕ
spare_word val rows a None = 0
spare_word val rows a (Some s) = or_else (look val rows a s) 0

-- the default of an array: its word at the spare index, or zero
abbrev pub default_at : List Node → (ℕ → Value) → List Landing → (ℕ → Option ℕ) → ℕ → ℕ
default_at nodes val rows spare a = spare_word val rows a (spare (index_width (sort_of nodes a)))

-- the word of an array at an index: that of its access there, or its default
abbrev pub word_at : List Node → (ℕ → Value) → List Landing → (ℕ → Option ℕ) → ℕ → ℕ → ℕ
word_at nodes val rows spare a k = or_else (look val rows a k) (default_at nodes val rows spare a)
