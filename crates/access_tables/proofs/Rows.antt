-- Rows of literals, and the words that they are.
use Rattle.std.proofs.Common.{◌≡◌, ℕ, ◌<◌, ◌≤◌, Bool, true, List, length, Option, Some, sym, ap, ◌∙◌, subst}
use Rattle.std.specs.Prelude.{IsSomeAnd, IfSome}
use Rattle.cnf_base.specs.Literals.{Literal}
use Rattle.cnf_base.specs.Clauses.{number}
use Rattle.smt_words.specs.Words.{WordValue, word}
use Rattle.smt_terms.specs.declared.sort.Sort.{Sort}
use Rattle.smt_terms.specs.declared.sort.Sort.TheVariants as sort
use Rattle.smt_terms.specs.declared.node.Node.{Node}
use Rattle.smt_terms.specs.Bits.{TermBits, bits_in}
use Rattle.smt_terms.specs.Ranks.{is_word, width_of}
use Rattle.smt_terms.specs.Terms.{sort_of, IsTermList, IsSort}
use Rattle.smt_terms.specs.Values.{number_of}
use Rattle.smt_terms.proofs.Widths.{sort_bounded}
use Rattle.bit_blast.specs.Assigned.{IsLongAsWord}
use Rattle.bit_blast.specs.Meanings.{IsRowOf}
use Rattle.access_tables.specs.Held.{value_with, value_by, HasRow, assigned_value}

long_row : (s : Sort) (row : List Literal) → is_word s ≡ true → IsSort s → IsRowOf s row → IsLongAsWord row
long_row sort.Bool row w b h = let f : ⊥ = cc in absurd f
long_row (sort.Word n) row w b h = (subst (λ k. 0 < k) (sym h.1) h.0, subst (λ k. k ≤ 128) (sym h.1) b.1)
long_row (sort.Array n m) row w b h = let f : ⊥ = cc in absurd f

some_row : (P : List Literal → Type 0) (o : Option (List Literal)) (row : List Literal) → o ≡ Some row → P row → IsSomeAnd o P
some_row P o row e p = subst (λ q. IsSomeAnd q P) (sym e) p

pub word_long : (nodes : List Node) (bits : List TermBits) (t : ℕ) → IsTermList nodes → t < length nodes → is_word (sort_of nodes t) ≡ true → HasRow nodes bits t → IsSomeAnd (bits_in bits t) IsLongAsWord
word_long nodes bits t terms lt w h = some_row IsLongAsWord (bits_in bits t) h.0 h.1 (long_row (sort_of nodes t) h.0 w (sort_bounded nodes terms t lt) h.2)

row_word : (f : ℕ → Bool) (s : Sort) (row : List Literal) (r : WordValue) → is_word s ≡ true → IsRowOf s row → r ≡ word (length row) (number f row) → r ≡ word (width_of s) (number_of (value_with f s row))
row_word f sort.Bool row r w h e = let z : ⊥ = cc in absurd z
row_word f (sort.Word n) row r w h e = e ∙ ap (λ k. word k (number f row)) h.1
row_word f (sort.Array n m) row r w h e = let z : ⊥ = cc in absurd z

pub word_is_value : (nodes : List Node) (bits : List TermBits) (f : ℕ → Bool) (t : ℕ) (r : WordValue) → is_word (sort_of nodes t) ≡ true → HasRow nodes bits t
    → IfSome (bits_in bits t) (λ row. r ≡ word (length row) (number f row)) → r ≡ word (width_of (sort_of nodes t)) (number_of (assigned_value nodes bits f t))
word_is_value nodes bits f t r w h e =
    let got : r ≡ word (length h.0) (number f h.0) = subst (λ o. IfSome o (λ row. r ≡ word (length row) (number f row))) h.1 e in
    row_word f (sort_of nodes t) h.0 r w h.2 got ∙ ap (λ o. word (width_of (sort_of nodes t)) (number_of (value_by f (sort_of nodes t) o))) (sym h.1)
