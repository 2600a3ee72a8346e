-- Words and digits of a line, as they are read.
use Rattle.std.proofs.Common.{◌≡◌, ◌≢◌, ℕ, suc, ◌+◌, ◌-◌, ◌*◌, ◌<◌, ◌≤◌, Bool, true, false, cond, List, [], ◌∷◌, ◌++◌, length, take, drop, get_or, refl, sym, ap, ◌∙◌, arith, append_assoc, append-nil, eqb, drop-cons, add-one, length-drop, Option, Some, None}
use Rattle.std.proofs.lemmas.List.{take_more, take_all, drop_all}
use Rattle.std.proofs.lemmas.Bool.{eqb-true, eq-eqb, ne_eqb}
use Rattle.dimacs_front.specs.Words.{is_blank, lines_from, words_from, words_of, digits_from, number_limit}
use Rattle.smt_text.specs.Lexicon.{is_digit}
use Rattle.std.specs.Prelude.{min}

-- ---- blanks

pub blank_passed : (line : List ℕ) (n : ℕ) → n < length line → is_blank (get_or line n 0) ≡ true
    → words_of line ≡ words_of (drop n line) → words_of line ≡ words_of (drop (n + 1) line)
unfolding words_from
blank_passed line n h k e = e ∙ rw (drop-cons line n 0 h, k, add-one) refl

-- ---- words

-- a word that has a byte goes on
words_longer : (w : List ℕ) (b : ℕ) (bs : List ℕ) → 0 < length w → is_blank b ≡ false → words_from w (b ∷ bs) ≡ words_from (w ++ b ∷ []) bs
unfolding words_from
words_longer [] b bs h k = absurd (omega arith)
words_longer (c ∷ cs) b bs h k = rw k refl

words_ended : (w : List ℕ) (b : ℕ) (bs : List ℕ) → 0 < length w → is_blank b ≡ true → words_from w (b ∷ bs) ≡ w ∷ words_of (b ∷ bs)
unfolding words_from
words_ended [] b bs h k = absurd (omega arith)
words_ended (c ∷ cs) b bs h k = rw k refl

words_last : (w : List ℕ) → 0 < length w → words_from w [] ≡ w ∷ words_of []
unfolding words_from
words_last [] h = absurd (omega arith)
words_last (c ∷ cs) h = refl

pub word_begins : (line : List ℕ) → 0 < length line → is_blank (get_or line 0 0) ≡ false → words_of line ≡ words_from (take 1 line) (drop 1 line)
unfolding words_from
word_begins [] h k = absurd (omega arith)
word_begins (b ∷ bs) h k = rw k refl

taken_some : (line : List ℕ) (n : ℕ) → 0 < n → n ≤ length line → 0 < length (take n line)
taken_some line n p h = grind arith

pub word_goes_on : (line : List ℕ) (n : ℕ) → 0 < n → n < length line → is_blank (get_or line n 0) ≡ false
    → words_of line ≡ words_from (take n line) (drop n line) → words_of line ≡ words_from (take (n + 1) line) (drop (n + 1) line)
word_goes_on line n p h k e =
    e ∙ rw (drop-cons line n 0 h, words_longer (take n line) (get_or line n 0) (drop (suc n) line) (taken_some line n p (omega arith)) k, take_more line n 0 h, add-one) refl

pub word_ends : (line : List ℕ) (n : ℕ) → 0 < n → n < length line → is_blank (get_or line n 0) ≡ true
    → words_of line ≡ words_from (take n line) (drop n line) → words_of line ≡ take n line ∷ words_of (drop n line)
word_ends line n p h k e =
    e ∙ rw (drop-cons line n 0 h) (words_ended (take n line) (get_or line n 0) (drop (suc n) line) (taken_some line n p (omega arith)) k)

pub word_ends_last : (line : List ℕ) (n : ℕ) → 0 < n → n ≤ length line → length line ≤ n
    → words_of line ≡ words_from (take n line) (drop n line) → words_of line ≡ take n line ∷ words_of (drop n line)
word_ends_last line n p h k e = e ∙ rw (drop_all n line k) (words_last (take n line) (taken_some line n p h))

-- nothing is left
pub no_words : (line rest : List ℕ) → length rest ≡ 0 → words_of line ≡ words_of rest → words_of line ≡ []
unfolding words_from
no_words line [] h e = e
no_words line (b ∷ bs) h e = absurd (omega arith)

-- ---- digits

next_digit : (n : ℕ) (digits : List ℕ) (i : ℕ) → i < length digits
    → digits_from n (drop i digits) ≡ (let d = get_or digits i 0 in cond (is_digit d) (digits_from (min (10 * n + (d - 48)) number_limit) (drop (i + 1) digits)) None)
unfolding digits_from
next_digit n digits i h = rw (add-one, drop-cons digits i 0 h) refl

pub no_digit : (n : ℕ) (digits : List ℕ) (i : ℕ) (all : Option ℕ) → i < length digits → is_digit (get_or digits i 0) ≡ false → digits_from n (drop i digits) ≡ all → None ≡ all
no_digit n digits i all h d e = rw (next_digit n digits i h, d) at e

pub digit_taken : (n m : ℕ) (digits : List ℕ) (i : ℕ) (all : Option ℕ) → i < length digits → is_digit (get_or digits i 0) ≡ true
    → m ≡ min (10 * n + (get_or digits i 0 - 48)) number_limit → digits_from n (drop i digits) ≡ all → digits_from m (drop (i + 1) digits) ≡ all
digit_taken n m digits i all h d q e = rw q (rw (next_digit n digits i h, d) at e)

pub digits_end : (n : ℕ) (digits : List ℕ) (i : ℕ) (all : Option ℕ) → length digits ≤ i → digits_from n (drop i digits) ≡ all → Some n ≡ all
unfolding digits_from
digits_end n digits i all h e = rw (drop_all i digits h) at e

-- ---- what is left

pub first_left : (line : List ℕ) (n : ℕ) → n < length line → is_blank (get_or line n 0) ≡ false → is_blank (get_or (drop n line) 0 0) ≡ false
first_left line n h k = rw (drop-cons line n 0 h) k

pub none_left : (line : List ℕ) (n : ℕ) → length line ≤ n → 0 < length (drop n line) → ⊥
none_left line n h k = let e : length (drop n line) ≡ 0 = ap length (drop_all n line h) in omega (arith, e, k)

pub nothing_left : (rest : List ℕ) (q : Bool) → q ≡ eqb (length rest) 0 → q ≡ true → length rest ≡ 0
nothing_left rest q e t = eqb-true (length rest) 0 (sym e ∙ t)

pub some_left : (rest : List ℕ) (q : Bool) → q ≡ eqb (length rest) 0 → q ≡ false → 0 < length rest
some_left [] q e f = let z : ⊥ = cc in absurd z
some_left (b ∷ bs) q e f = omega arith

-- ---- lines

next_byte : (begun bytes more : List ℕ) (n : ℕ) → n < length bytes → lines_from begun (drop n bytes ++ more) ≡ lines_from begun (get_or bytes n 0 ∷ (drop (n + 1) bytes ++ more))
next_byte begun bytes more n h = rw (drop-cons bytes n 0 h, add-one) refl

-- a byte that is no line feed belongs to the line
pub line_goes_on : (bytes : List ℕ) (n : ℕ) → n < length bytes → get_or bytes n 0 ≢ 10
    → ((begun more : List ℕ) → lines_from begun (bytes ++ more) ≡ lines_from (begun ++ take n bytes) (drop n bytes ++ more))
    → (begun more : List ℕ) → lines_from begun (bytes ++ more) ≡ lines_from (begun ++ take (n + 1) bytes) (drop (n + 1) bytes ++ more)
unfolding lines_from
line_goes_on bytes n h k e begun more =
    let b = get_or bytes n 0 in
    let other : eqb b 10 ≡ false = ne_eqb b 10 k in
    e begun more ∙ next_byte (begun ++ take n bytes) bytes more n h ∙ rw (other, append_assoc begun (take n bytes) (b ∷ []), take_more bytes n 0 h, add-one) refl

-- a line feed ends it
pub line_ends : (bytes begun more : List ℕ) (n : ℕ) → n < length bytes → get_or bytes n 0 ≡ 10
    → lines_from begun (bytes ++ more) ≡ lines_from (begun ++ take n bytes) (drop n bytes ++ more)
    → lines_from begun (bytes ++ more) ≡ (begun ++ take n bytes) ∷ lines_from [] (drop (n + 1) bytes ++ more)
unfolding lines_from
line_ends bytes begun more n h k e =
    let same : eqb (get_or bytes n 0) 10 ≡ true = eq-eqb _ _ k in
    e ∙ next_byte (begun ++ take n bytes) bytes more n h ∙ rw same refl

pub line_unended : (bytes begun more : List ℕ) (n : ℕ) → n ≡ length bytes
    → lines_from begun (bytes ++ more) ≡ lines_from (begun ++ take n bytes) (drop n bytes ++ more)
    → lines_from begun (bytes ++ more) ≡ lines_from (begun ++ take n bytes) more
line_unended bytes begun more n h e = let k : drop n bytes ≡ [] = drop_all n bytes (omega (arith, h)) in e ∙ rw k refl

pub line_begins : (bytes begun more : List ℕ) → lines_from begun (bytes ++ more) ≡ lines_from (begun ++ take 0 bytes) (drop 0 bytes ++ more)
line_begins bytes begun more = rw append-nil refl

pub rest_whole : (bytes : List ℕ) (n : ℕ) → take (length bytes - n) (drop n bytes) ≡ drop n bytes
rest_whole bytes n = let e : length (drop n bytes) ≡ length bytes - n = rw length-drop refl in take_all (length bytes - n) (drop n bytes) (omega (arith, e))
