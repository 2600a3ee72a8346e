-- The sort that an S-expression means (SMT-LIB 2.6, section 3.5, and the theories FixedSizeBitVectors and ArraysEx).
use Rattle.std.specs.Prelude.{ℕ, Bool, false, List, codes, Option, Some, None, Result, Ok, Err, if◌then◌else◌}
use Rattle.std.specs.Str.{bytes_eq}
use Rattle.smt_text.specs.declared.token.TokenKind.{TokenKind}
use Rattle.smt_text.specs.declared.token.TokenKind.TheVariants as kind
use Rattle.smt_syntax.specs.Sexps.{Sexp, Sexps, atom, group, none, more}
use Rattle.smt_syntax.specs.Walk.{◌>>=◌}
use Rattle.smt_terms.specs.declared.sort.Sort.{Sort}
use Rattle.smt_terms.specs.declared.sort.Sort.TheVariants as sort
use Rattle.smt_build.specs.declared.fault.BuildFault.{BuildFault}
use Rattle.smt_build.specs.declared.fault.BuildFault.TheVariants.{UnknownSymbol, Width, NotSupported}
use Rattle.smt_build.specs.Literals.{width_of_numeral}
use Rattle.smt_build.specs.Names.{Meanings, SymbolsValue, meaning_in}

abbrev pub defined_sort : Option Sort → Result Sort BuildFault
defined_sort (Some s) = Ok s
defined_sort None = Err UnknownSymbol

-- the sort of a name, where these are defined
abbrev pub sort_named : Meanings Sort → TokenKind → List ℕ → Result Sort BuildFault
sort_named sorts kind.Symbol x = if bytes_eq x (codes "Bool") then Ok sort.Bool else defined_sort (meaning_in sorts x)
sort_named sorts _ x = Err NotSupported

abbrev pub word_of_width : Option ℕ → Result Sort BuildFault
word_of_width (Some n) = Ok (sort.Word n)
word_of_width None = Err Width

abbrev pub width_sort : TokenKind → List ℕ → Result Sort BuildFault
width_sort kind.Numeral n = word_of_width (width_of_numeral n)
width_sort _ n = Err NotSupported

abbrev pub named_sort : TokenKind → List ℕ → TokenKind → List ℕ → Result Sort BuildFault
named_sort kind.Symbol b k n = if bytes_eq b (codes "BitVec") then width_sort k n else Err NotSupported
named_sort _ b k n = Err NotSupported

abbrev pub indexed_sort : TokenKind → TokenKind → List ℕ → TokenKind → List ℕ → Result Sort BuildFault
indexed_sort kind.Underscore j b k n = named_sort j b k n
indexed_sort _ j b k n = Err NotSupported

-- `(_ BitVec n)`
abbrev pub word_listed : Sexps → Result Sort BuildFault
word_listed (more (atom i l) (more (atom j b) (more (atom k n) none))) = indexed_sort i j b k n
word_listed _ = Err NotSupported

-- a name, or `(_ BitVec n)`
abbrev pub part_sort : Meanings Sort → Sexp → Result Sort BuildFault
part_sort sorts (atom k x) = sort_named sorts k x
part_sort sorts (group es) = word_listed es

-- ---- arrays

-- indexes and elements are words
abbrev pub array_of : Sort → Sort → Result Sort BuildFault
array_of (sort.Word n) (sort.Word m) = Ok (sort.Array n m)
array_of _ _ = Err NotSupported

abbrev pub array_by : Result Sort BuildFault → Result Sort BuildFault → Result Sort BuildFault
array_by index element = index >>= λ s. element >>= λ t. array_of s t

-- the sort of arrays of two sorts; one that is itself such a list is not looked into
abbrev pub array_sort : Meanings Sort → Sexps → Result Sort BuildFault
array_sort sorts (more e (more f none)) = array_by (part_sort sorts e) (part_sort sorts f)
array_sort sorts _ = Err NotSupported

-- a list that begins with the word `Array`
abbrev pub begins_array : Sexp → Bool
begins_array (group (more (atom kind.Symbol x) es)) = bytes_eq x (codes "Array")
begins_array _ = false

abbrev pub behind_head : Sexp → Sexps
behind_head (group (more e es)) = es
behind_head _ = none

-- the sort of an S-expression
abbrev pub sort_in : SymbolsValue → Sexp → Result Sort BuildFault
sort_in v e = if begins_array e then array_sort v.sorts (behind_head e) else part_sort v.sorts e
