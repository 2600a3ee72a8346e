-- The parts of a sort within a term, as a reader meets them one after another.
use Rattle.std.specs.Prelude.{ℕ, Bool, false, ◌&&◌, List, codes, Result, Err, if◌then◌else◌}
use Rattle.std.specs.Str.{bytes_eq}
use Rattle.smt_text.specs.declared.token.TokenKind.{TokenKind}
use Rattle.smt_text.specs.declared.token.TokenKind.TheVariants as kind
use Rattle.smt_terms.specs.declared.sort.Sort.{Sort}
use Rattle.smt_build.specs.declared.fault.BuildFault.{BuildFault}
use Rattle.smt_build.specs.declared.fault.BuildFault.TheVariants.{NotSupported}
use Rattle.smt_build.specs.Names.{Meanings, SymbolsValue}
use Rattle.smt_build.specs.Sorts.{sort_named, indexed_sort, array_by}

-- a word, or a list with the sort that it means
pub data SortPart : Type 0 where
  word : TokenKind → List ℕ → SortPart
  listed : Result Sort BuildFault → SortPart

-- the parts of a list; no sort has more than three
pub data SortParts : Type 0 where
  no_part : SortParts
  one_part : SortPart → SortParts
  two_parts : SortPart → SortPart → SortParts
  three_parts : SortPart → SortPart → SortPart → SortParts
  more_parts : SortParts

abbrev pub with_part : SortParts → SortPart → SortParts
with_part no_part p = one_part p
with_part (one_part p) q = two_parts p q
with_part (two_parts p q) r = three_parts p q r
with_part _ r = more_parts

-- the sort that a part means by itself
abbrev pub sort_of_part : Meanings Sort → SortPart → Result Sort BuildFault
sort_of_part sorts (word k x) = sort_named sorts k x
sort_of_part sorts (listed r) = r

-- the word `Array`
abbrev pub is_array_word : SortPart → Bool
is_array_word (word kind.Symbol x) = bytes_eq x (codes "Array")
is_array_word _ = false

-- `(_ BitVec n)`
abbrev pub sort_of_words : SortPart → SortPart → SortPart → Result Sort BuildFault
sort_of_words (word i l) (word j b) (word k n) = indexed_sort i j b k n
sort_of_words _ _ _ = Err NotSupported

-- the sort of a list; one of arrays is known where it is the whole sort
abbrev pub sort_of_parts : SymbolsValue → Bool → SortParts → Result Sort BuildFault
sort_of_parts symbols whole (three_parts p q r) = if whole && is_array_word p then array_by (sort_of_part symbols.sorts q) (sort_of_part symbols.sorts r) else sort_of_words p q r
sort_of_parts symbols whole _ = Err NotSupported
