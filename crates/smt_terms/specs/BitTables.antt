-- How the bits of terms are kept: spans of one list of literals, and a table of places by term.
use Rattle.std.specs.Prelude.{◌≡◌, ℕ, suc, ◌+◌, ◌≤◌, ◌==◌, if◌then◌else◌, Bool, List, [], ◌∷◌, take, drop, length, Option, Some, None, slice_index_or}
use Rattle.std.specs.List.{AllByRecursion}
use Rattle.cnf_base.specs.Literals.{Literal}
use Rattle.smt_terms.specs.declared.bits.Span.{Span}
use Rattle.smt_terms.specs.Bits.{TermBits}

abbrev pub shown : List Literal → Span → TermBits
shown literals s = record { term = s.term; bits = take s.len (drop s.start literals); image = s.image }

abbrev pub is_of : ℕ → Span → Bool
is_of t s = s.term == t

abbrev pub place_in : List (Option ℕ) → ℕ → Option ℕ
place_in places t = slice_index_or places t None

-- the place of a term's span, where so many stand before
abbrev pub place_from : ℕ → List Span → ℕ → Option ℕ
place_from k [] t = None
place_from k (s ∷ spans) t = if is_of t s then Some k else place_from (suc k) spans t

-- the table has the place of each term's span
abbrev pub IsTable : List Span → List (Option ℕ) → Type 0
IsTable spans places = (t : ℕ) → place_in places t ≡ place_from 0 spans t

abbrev pub AreWithin : List Literal → List Span → Type 0
AreWithin literals spans = AllByRecursion (λ s. s.start + s.len ≤ length literals) spans
