-- A table of accesses as code holds it, and the values of terms under an assignment of the variables.
use Rattle.std.specs.Prelude.{◌≡◌, ℕ, ◌==◌, if◌then◌else◌, Bool, false, List, [], ◌∷◌, Option, Some, None, Contains}
use Rattle.cnf_base.specs.Literals.{Literal}
use Rattle.cnf_base.specs.Clauses.{lit_true, number}
use Rattle.smt_terms.specs.declared.sort.Sort.{Sort}
use Rattle.smt_terms.specs.declared.sort.Sort.TheVariants as sort
use Rattle.smt_terms.specs.declared.node.Node.{Node}
use Rattle.smt_terms.specs.Bits.{TermBits, bits_in, image_in}
use Rattle.smt_terms.specs.Terms.{sort_of}
use Rattle.smt_terms.specs.Values.{Value, VBool, VWord, default_of}
use Rattle.theory_terms.specs.declared.atom.Landing.{Landing}
use Rattle.term_reach.specs.Reach.{IsClosed}
use Rattle.access_tables.specs.Leading.{leads}
use Rattle.access_tables.specs.Tables.{IsClosedTable, AreSpare, word_at}
use Rattle.bit_blast.specs.Meanings.{IsRowOf}
use Rattle.smt_words.specs.Words.{WordValue}

-- terms, accesses of the arrays among them, and the spare index of each width that has one
pub record TableValue : Type 0 where
  pub terms : List ℕ
  pub rows : List Landing
  pub spares : List WordValue

-- the spare index of a width, if there is one
abbrev pub spare_in : List WordValue → ℕ → Option ℕ
spare_in [] n = None
spare_in (w ∷ ws) n = if w.width == n then Some w.value else spare_in ws n

-- ---- values under an assignment

-- the value of a sort whose bits these are, the lowest first
abbrev pub value_with : (ℕ → Bool) → Sort → List Literal → Value
value_with f sort.Bool [] = VBool false
value_with f sort.Bool (l ∷ row) = VBool (lit_true f l)
value_with f (sort.Word n) row = VWord n (number f row)
value_with f (sort.Array n m) row = default_of (sort.Array n m)

abbrev pub value_by : (ℕ → Bool) → Sort → Option (List Literal) → Value
value_by f s None = default_of s
value_by f s (Some row) = value_with f s row

-- the value of a term under an assignment of the variables: that of its bits, or false, zero or zeros where it has none
abbrev pub assigned_value : List Node → List TermBits → (ℕ → Bool) → ℕ → Value
assigned_value nodes bits f t = value_by f (sort_of nodes t) (bits_in bits t)

-- the term has as many bits as its sort
abbrev pub HasRow : List Node → List TermBits → ℕ → Type 0
HasRow nodes bits t = (row : List Literal) × (bits_in bits t ≡ Some row) × IsRowOf (sort_of nodes t) row

-- an array among these terms, and an index and an element of its sort that have bits
pub record IsAccess (nodes : List Node) (bits : List TermBits) (terms : List ℕ) (r : Landing) : Type 0 where
  pub index : ℕ
  pub element : ℕ
  pub here : Contains terms r.array
  pub array : sort_of nodes r.array ≡ sort.Array index element
  pub at : sort_of nodes r.index ≡ sort.Word index
  pub value : sort_of nodes r.value ≡ sort.Word element
  pub index_bits : HasRow nodes bits r.index
  pub value_bits : HasRow nodes bits r.value

-- The terms are closed under all to which they lead, and the accesses of the arrays among them under the moves that are open
-- under the assignment; the spare indexes are those of the widths of constant arrays.
pub record IsClosedUnder (nodes : List Node) (bits : List TermBits) (f : ℕ → Bool) (table : TableValue) : Type 0 where
  pub terms : IsClosed (leads nodes (image_in bits)) (Contains table.terms)
  pub accesses : (r : Landing) → Contains table.rows r → IsAccess nodes bits table.terms r
  pub rows : IsClosedTable nodes (image_in bits) (Contains table.terms) (assigned_value nodes bits f) table.rows
  pub spares : AreSpare nodes (Contains table.terms) (image_in bits) (assigned_value nodes bits f) (spare_in table.spares)

-- the word of an array at an index: that of its access there, else that of its access at the spare index, else zero
abbrev pub table_word : List Node → List TermBits → (ℕ → Bool) → TableValue → ℕ → ℕ → ℕ
table_word nodes bits f table = word_at nodes (assigned_value nodes bits f) table.rows (spare_in table.spares)
