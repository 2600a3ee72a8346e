-- Names with indices (SMT-LIB 2.6, section 3.3, and the logic QF_BV): `(_ bvX n)`, and operators as `(_ extract i j)`.
use Rattle.std.specs.Prelude.{ℕ, ◌^◌, ◌||◌, is_some, max, nat_lt, List, [], ◌∷◌, Option, Some, None, Result, Ok, Err, if◌then◌else◌}
use Rattle.smt_text.specs.declared.token.TokenKind.TheVariants as kind
use Rattle.smt_syntax.specs.Sexps.{Sexps, atom, none, more}
use Rattle.smt_terms.specs.declared.sort.Sort.{Sort}
use Rattle.smt_terms.specs.declared.node.Op.{Op}
use Rattle.smt_terms.specs.declared.node.Op.TheVariants.{Word, Extract, ZeroExtend, SignExtend, RotateLeft, RotateRight, Repeat}
use Rattle.smt_terms.specs.Nodes.{node_of, leaf}
use Rattle.smt_terms.specs.Terms.{TermsValue, held_sort}
use Rattle.smt_build.specs.declared.fault.BuildFault.{BuildFault}
use Rattle.smt_build.specs.declared.fault.BuildFault.TheVariants.{UnknownSymbol, WrongSort, Width, LiteralTooWide, NotSupported}
use Rattle.smt_build.specs.declared.operators.Family.{Family}
use Rattle.smt_build.specs.declared.operators.Family.TheVariants as family
use Rattle.smt_build.specs.declared.operators.Named.{Named}
use Rattle.smt_build.specs.declared.operators.Named.TheVariants.{Applies, Indexed}
use Rattle.smt_build.specs.Literals.{width_of_numeral, number_of, index_of, turn_of}
use Rattle.smt_build.specs.Operators.{operator_named}
use Rattle.smt_build.specs.Names.{SymbolsValue, is_taken}
use Rattle.smt_build.specs.Building.{Built, made}
use Rattle.smt_build.specs.Grouping.{width_in}

-- the numerals behind a name; no name takes more than two
pub data Indices : Type 0 where
  one : List ℕ → Indices
  two : List ℕ → List ℕ → Indices
  many : Indices

abbrev pub with_index : Indices → List ℕ → Indices
with_index (one i) j = two i j
with_index (two i j) k = many
with_index many k = many

-- a name, with indices or without, or `(as const S)`
pub data Head : Type 0 where
  plain : List ℕ → Head
  indexed : List ℕ → Indices → Head
  everywhere : Sort → Head

abbrev pub indices_behind : List ℕ → Indices → Sexps → Result Head BuildFault
indices_behind f is none = Ok (indexed f is)
indices_behind f is (more (atom kind.Numeral i) es) = indices_behind f (with_index is i) es
indices_behind f is _ = Err NotSupported

-- the name and the indices behind an underscore
abbrev pub indexed_in : Sexps → Result Head BuildFault
indexed_in (more (atom kind.Symbol f) (more (atom kind.Numeral i) es)) = indices_behind f (one i) es
indexed_in _ = Err NotSupported

-- ---- literals

-- the word of a value in a width
abbrev pub word_by : TermsValue → ℕ → Option ℕ → Built
word_by terms n None = Err LiteralTooWide
word_by terms n (Some x) = if nat_lt x (2 ^ n) then made terms (leaf (Word n x)) else Err LiteralTooWide

-- a width out of range is told before a value that is too wide
abbrev pub word_in : TermsValue → List ℕ → Option ℕ → Built
word_in terms digits None = Err Width
word_in terms digits (Some n) = word_by terms n (number_of digits)

abbrev pub word_of : TermsValue → List ℕ → Indices → Built
word_of terms (b ∷ v ∷ digits) (one n) = word_in terms digits (width_of_numeral n)
word_of terms _ is = Err WrongSort

-- a name that stands for something takes other indices
abbrev pub known : SymbolsValue → List ℕ → BuildFault
known symbols f = if is_some (operator_named f) || is_taken symbols f then WrongSort else UnknownSymbol

-- ---- operators

-- the operator of a name with indices, on a word of this width
abbrev pub with_indices : Family → Indices → ℕ → Option Op
with_indices family.Extract (two i j) w = Some (Extract (index_of i) (index_of j))
with_indices family.ZeroExtend (one i) w = Some (ZeroExtend (index_of i))
with_indices family.SignExtend (one i) w = Some (SignExtend (index_of i))
with_indices family.RotateLeft (one i) w = Some (RotateLeft (turn_of w i))
with_indices family.RotateRight (one i) w = Some (RotateRight (turn_of w i))
with_indices family.Repeat (one i) w = Some (Repeat (index_of i))
with_indices _ is w = None

-- the width of the first argument; 1 where it has none, which no operator with indices takes
abbrev pub first_width : TermsValue → List ℕ → ℕ
first_width terms [] = 1
first_width terms (t ∷ ts) = max 1 (width_in (held_sort terms.nodes t))

abbrev pub indexed_by : TermsValue → Option Op → List ℕ → Built
indexed_by terms None args = Err WrongSort
indexed_by terms (Some op) args = made terms (node_of op args)

abbrev pub indexed_application : SymbolsValue → TermsValue → List ℕ → Indices → Option Named → List ℕ → Built
indexed_application symbols terms f is (Some (Indexed k)) args = indexed_by terms (with_indices k is (first_width terms args)) args
indexed_application symbols terms f is (Some (Applies o arity)) args = Err WrongSort
indexed_application symbols terms f is None args = Err (known symbols f)
