-- The lines of a text, the words of a line, and the numbers that words say.
use Rattle.std.specs.Prelude.{ℕ, ◌+◌, ◌-◌, ◌*◌, ◌^◌, ◌==◌, min, Bool, true, false, ◌||◌, if◌then◌else◌, List, [], ◌∷◌, ◌++◌, length, Option, Some, None}
use Rattle.smt_text.specs.Lexicon.{is_digit}
use Rattle.dimacs_front.specs.declared.number.Number.{Number}

-- ---- lines

-- Behind the bytes of a line that is begun: a line feed ends it, and at the end of the text a line
-- is one where it has a byte.
unfoldable pub lines_from : List ℕ → List ℕ → List (List ℕ)
lines_from begun [] = if length begun == 0 then [] else begun ∷ []
lines_from begun (b ∷ bs) = if b == 10 then begun ∷ lines_from [] bs else lines_from (begun ++ b ∷ []) bs

abbrev pub lines_of : List ℕ → List (List ℕ)
lines_of text = lines_from [] text

-- the line begins with this byte
abbrev pub begins_with : ℕ → List ℕ → Bool
begins_with mark [] = false
begins_with mark (b ∷ bs) = b == mark

-- ---- words

-- space, tab, and the carriage return before a line feed
abbrev pub is_blank : ℕ → Bool
is_blank b = b == 32 || b == 9 || b == 13

-- behind the bytes of a word that is begun
unfoldable pub words_from : List ℕ → List ℕ → List (List ℕ)
words_from [] [] = []
words_from (c ∷ cs) [] = (c ∷ cs) ∷ []
words_from [] (b ∷ bs) = if is_blank b then words_from [] bs else words_from (b ∷ []) bs
words_from (c ∷ cs) (b ∷ bs) = if is_blank b then (c ∷ cs) ∷ words_from [] bs else words_from (c ∷ (cs ++ b ∷ [])) bs

-- the words of a line: what stands between blanks
abbrev pub words_of : List ℕ → List (List ℕ)
words_of line = words_from [] line

-- ---- numbers

-- where numbers end: one from here on is told as this one, which is above every bound of the two
-- formats
abbrev pub number_limit : ℕ
number_limit = 2 ^ 60

-- the digits go on from a number
unfoldable pub digits_from : ℕ → List ℕ → Option ℕ
digits_from n [] = Some n
digits_from n (b ∷ bs) = if is_digit b then digits_from (min (10 * n + (b - 48)) number_limit) bs else None

-- the number that a word of digits says
abbrev pub whole_of : List ℕ → Option ℕ
whole_of [] = None
whole_of (b ∷ bs) = digits_from 0 (b ∷ bs)

abbrev pub plain : Option ℕ → Option Number
plain None = None
plain (Some n) = Some (record { size = n; negative = false })

abbrev pub below_zero : Option ℕ → Option Number
below_zero None = None
below_zero (Some n) = if n == 0 then None else Some (record { size = n; negative = true })

-- the same with a minus before it, but for 0
abbrev pub number_of : List ℕ → Option Number
number_of [] = None
number_of (b ∷ bs) = if b == 45 then below_zero (whole_of bs) else plain (whole_of (b ∷ bs))
