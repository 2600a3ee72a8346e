-- A line that was written is read back.
use Rattle.std.proofs.Common.{◌≡◌, ℕ, ◌+◌, ◌-◌, ◌*◌, ◌/◌, ◌%◌, ◌^◌, ◌<◌, ◌≤◌, Bool, true, false, cond, List, [], ◌∷◌, ◌++◌, length, Some, Ok, refl, sym, ap, ◌∙◌, inl, inr, arith, append_assoc, append-nil, ap₂, eqb, leb, ltb}
use Rattle.std.specs.Prelude.{◌&&◌, codes, map, min}
use Rattle.std.specs.List.{list_all, AllByRecursion}
use Rattle.std.specs.Str.{bytes_eq}
use Rattle.std.specs.Fmt.{decimal}
use Rattle.std.proofs.lemmas.Fmt.{decimal_by_steps}
use Rattle.std.proofs.lemmas.Bool.{and_parts, leb-true, le-leb, lt-ltb, lt-leb, ne_eqb}
use Rattle.std.proofs.Math.Bool.{not-not}
use Rattle.std.proofs.lemmas.List.Folds.{list_all-append}
use Rattle.smt_text.specs.Lexicon.{is_digit}
use Rattle.cnf_base.specs.Literals.{Literal, negated}
use Rattle.cnf_base.proofs.Codes.{literal_from_parts}
use Rattle.cnf_base.specs.declared.clause.ClauseId.{ClauseId}
use Rattle.hint_chain.specs.Chains.{ChainFrom, IsChain}
use Rattle.dimacs_front.specs.declared.number.Number.{Number}
use Rattle.dimacs_front.specs.declared.step.Step.TheVariants.{Add}
use Rattle.dimacs_front.specs.Words.{lines_from, begins_with, is_blank, words_from, words_of, number_limit, digits_from, whole_of, number_of}
use Rattle.dimacs_front.specs.Cnf.{literal_of}
use Rattle.dimacs_front.specs.Lrat.{numbers_in, is_in, added_in, step_behind, step_of, are_signed, is_good, with_added, judge_line, judge_lines, Judging, Judged, added, lrat_goes_on, TableValue}
use Rattle.dimacs_front.specs.Chains.{name_of, look_in}
use Rattle.dimacs_front.proofs.Chains.{good_is_begun}
use Rattle.dimacs_front.proofs.Hints.{lrat_line_read}
use Rattle.dimacs_search.specs.Writing.{number_in, hint_in, number_text, spaced, ended, added_line, added_text, IsWritable, MayBeAdded, with_line}

-- ---- bytes of words

-- a digit or a minus: no blank and no line feed
abbrev inner : ℕ → Bool
inner b = leb 45 b

abbrev IsWord : List ℕ → Type 0
IsWord [] = ⊥
IsWord (b ∷ bs) = list_all inner (b ∷ bs) ≡ true

abbrev IsDigits : List ℕ → Type 0
IsDigits [] = ⊥
IsDigits (b ∷ bs) = list_all is_digit (b ∷ bs) ≡ true

and_both : (a b : Bool) → a ≡ true → b ≡ true → (a && b) ≡ true
and_both a b p q = rw (p, q) refl

no_blank : (b : ℕ) → inner b ≡ true → is_blank b ≡ false
no_blank b h =
    let le : 45 ≤ b = leb-true 45 b h in
    let p : eqb b 32 ≡ false = ne_eqb b 32 (λ (e : b ≡ 32). omega arith) in
    let q : eqb b 9 ≡ false = ne_eqb b 9 (λ (e : b ≡ 9). omega arith) in
    let r : eqb b 13 ≡ false = ne_eqb b 13 (λ (e : b ≡ 13). omega arith) in
    rw (p, q, r) refl

digit_inner : (b : ℕ) → is_digit b ≡ true → inner b ≡ true
digit_inner b h = le-leb 45 b (omega (arith, leb-true 48 b (and_parts (leb 48 b) (leb b 57) h).0))

digits_inner : (bs : List ℕ) → list_all is_digit bs ≡ true → list_all inner bs ≡ true
digits_inner [] h = refl
digits_inner (b ∷ bs) h = let p = and_parts (is_digit b) (list_all is_digit bs) h in and_both (inner b) (list_all inner bs) (digit_inner b p.0) (digits_inner bs p.1)

digits_word : (ds : List ℕ) → IsDigits ds → IsWord ds
digits_word [] h = h
digits_word (b ∷ bs) h = digits_inner (b ∷ bs) h

minus_word : (ds : List ℕ) → IsDigits ds → IsWord (45 ∷ ds)
minus_word [] h = absurd h
minus_word (b ∷ bs) h = and_both (inner 45) (list_all inner (b ∷ bs)) refl (digits_inner (b ∷ bs) h)

-- ---- words

words_go : (c : ℕ) (cs w rest : List ℕ) → list_all inner w ≡ true → words_from (c ∷ cs) (w ++ rest) ≡ words_from (c ∷ (cs ++ w)) rest
unfolding words_from
words_go c cs [] rest h = ap (λ x. words_from (c ∷ x) rest) (sym (append-nil cs))
words_go c cs (b ∷ bs) rest h =
    let p = and_parts (inner b) (list_all inner bs) h in
    let n : is_blank b ≡ false = no_blank b p.0 in
    rw n (words_go c (cs ++ b ∷ []) bs rest p.1 ∙ ap (λ x. words_from (c ∷ x) rest) (append_assoc cs (b ∷ []) bs))

words_begin : (d : ℕ) (ds rest : List ℕ) → list_all inner (d ∷ ds) ≡ true → words_from [] ((d ∷ ds) ++ rest) ≡ words_from (d ∷ ds) rest
unfolding words_from
words_begin d ds rest h =
    let p = and_parts (inner d) (list_all inner ds) h in
    let n : is_blank d ≡ false = no_blank d p.0 in
    rw n (words_go d [] ds rest p.1)

words_spaced : (c : ℕ) (cs : List ℕ) (ws : List (List ℕ)) → AllByRecursion IsWord ws → words_from (c ∷ cs) (spaced ws) ≡ (c ∷ cs) ∷ ws
unfolding words_from
words_spaced c cs [] h = refl
words_spaced c cs ([] ∷ ws) h = absurd h.0
words_spaced c cs ((d ∷ ds) ∷ ws) h = ap (λ x. (c ∷ cs) ∷ x) (words_begin d ds (spaced ws) h.0 ∙ words_spaced d ds ws h.1)

line_words : (w : List ℕ) (ws : List (List ℕ)) → IsWord w → AllByRecursion IsWord ws → words_of (w ++ spaced ws) ≡ w ∷ ws
line_words [] ws h k = absurd h
line_words (d ∷ ds) ws h k = words_begin d ds (spaced ws) h ∙ words_spaced d ds ws k

-- ---- lines

abbrev within : ℕ → Bool
within b = leb 32 b

inner_within : (bs : List ℕ) → list_all inner bs ≡ true → list_all within bs ≡ true
inner_within [] h = refl
inner_within (b ∷ bs) h =
    let p = and_parts (inner b) (list_all inner bs) h in
    and_both (within b) (list_all within bs) (le-leb 32 b (omega (arith, leb-true 45 b p.0))) (inner_within bs p.1)

word_within : (w : List ℕ) → IsWord w → list_all within w ≡ true
word_within [] h = absurd h
word_within (b ∷ bs) h = inner_within (b ∷ bs) h

both_within : (xs ys : List ℕ) → list_all within xs ≡ true → list_all within ys ≡ true → list_all within (xs ++ ys) ≡ true
both_within xs ys p q = list_all-append within xs ys ∙ and_both (list_all within xs) (list_all within ys) p q

spaced_within : (ws : List (List ℕ)) → AllByRecursion IsWord ws → list_all within (spaced ws) ≡ true
spaced_within [] h = refl
spaced_within (w ∷ ws) h = both_within (32 ∷ w) (spaced ws) (and_both (within 32) (list_all within w) refl (word_within w h.0)) (spaced_within ws h.1)

line_go : (begun line rest : List ℕ) → list_all within line ≡ true → lines_from begun (line ++ 10 ∷ rest) ≡ (begun ++ line) ∷ lines_from [] rest
unfolding lines_from
line_go begun [] rest h = ap (λ x. x ∷ lines_from [] rest) (sym (append-nil begun))
line_go begun (b ∷ bs) rest h =
    let p = and_parts (within b) (list_all within bs) h in
    let le : 32 ≤ b = leb-true 32 b p.0 in
    let n : eqb b 10 ≡ false = ne_eqb b 10 (λ (e : b ≡ 10). omega arith) in
    rw n (line_go (begun ++ b ∷ []) bs rest p.1 ∙ ap (λ x. x ∷ lines_from [] rest) (append_assoc begun (b ∷ []) bs))

-- ---- numbers

one_digit : (d : ℕ) → d < 10 → is_digit (48 + d) ≡ true
one_digit d h = and_both (leb 48 (48 + d)) (leb (48 + d) 57) (le-leb 48 (48 + d) (omega arith)) (le-leb (48 + d) 57 (omega arith))

more_digits : (ds : List ℕ) (d : ℕ) → IsDigits ds → d < 10 → IsDigits (ds ++ (48 + d) ∷ [])
more_digits [] d h lt = absurd h
more_digits (b ∷ bs) d h lt = list_all-append is_digit (b ∷ bs) ((48 + d) ∷ []) ∙ and_both (list_all is_digit (b ∷ bs)) (is_digit (48 + d) && true) h (and_both (is_digit (48 + d)) true (one_digit d lt) refl)

decimal_digits : (n : ℕ) → n < 2 ^ 64 → IsDigits (decimal n)
decimal_digits n h =
    decimal_by_steps (λ m ds. IsDigits ds)
    (λ m lt. and_both (is_digit (48 + m)) true (one_digit m lt) refl)
    (λ m ds low k. more_digits ds (m % 10) k (omega arith))
    n h

-- the digits go on behind a number
abbrev Counts : ℕ → List ℕ → Type 0
Counts n ds = n < number_limit → (rest : List ℕ) → digits_from 0 (ds ++ rest) ≡ digits_from n rest

counts_one : (n : ℕ) → n < 10 → Counts n ((48 + n) ∷ [])
unfolding digits_from
counts_one n lt small rest =
    let d : is_digit (48 + n) ≡ true = one_digit n lt in
    let e : min (10 * 0 + (48 + n - 48)) number_limit ≡ n = omega arith in
    rw (d, e) refl

counts_more : (n : ℕ) (ds : List ℕ) → 10 ≤ n → Counts (n / 10) ds → Counts n (ds ++ (48 + n % 10) ∷ [])
unfolding digits_from
counts_more n ds low k small rest =
    let d : is_digit (48 + n % 10) ≡ true = one_digit (n % 10) (omega arith) in
    let e : min (10 * (n / 10) + (48 + n % 10 - 48)) number_limit ≡ n = omega arith in
    ap (digits_from 0) (append_assoc ds ((48 + n % 10) ∷ []) rest) ∙ k (omega arith) ((48 + n % 10) ∷ rest) ∙ rw (d, e) refl

decimal_counts : (n : ℕ) → n < number_limit → digits_from 0 (decimal n) ≡ Some n
unfolding digits_from
decimal_counts n small =
    ap (digits_from 0) (sym (append-nil (decimal n))) ∙ decimal_by_steps Counts counts_one counts_more n (omega arith) small []

whole_read : (ds : List ℕ) (n : ℕ) → IsDigits ds → digits_from 0 ds ≡ Some n → whole_of ds ≡ Some n
whole_read [] n h e = absurd h
whole_read (b ∷ bs) n h e = e

plain_read : (ds : List ℕ) (n : ℕ) → IsDigits ds → digits_from 0 ds ≡ Some n → number_of ds ≡ Some (record { size = n; negative = false })
plain_read [] n h e = absurd h
plain_read (b ∷ bs) n h e =
    let low : 48 ≤ b = leb-true 48 b (and_parts (leb 48 b) (leb b 57) (and_parts (is_digit b) (list_all is_digit bs) h).0).0 in
    let m : eqb b 45 ≡ false = ne_eqb b 45 (λ (q : b ≡ 45). omega arith) in
    rw (m, e) refl

minus_read : (ds : List ℕ) (n : ℕ) → IsDigits ds → 0 < n → digits_from 0 ds ≡ Some n → number_of (45 ∷ ds) ≡ Some (record { size = n; negative = true })
minus_read ds n h some e =
    let w : whole_of ds ≡ Some n = whole_read ds n h e in
    let z : eqb n 0 ≡ false = ne_eqb n 0 (λ (q : n ≡ 0). omega arith) in
    rw (w, z) refl

sign_read : (s : ℕ) (negative : Bool) → IsWritable s → number_of (cond negative (45 ∷ decimal s) (decimal s)) ≡ Some (record { size = s; negative = negative })
sign_read s true h = minus_read (decimal s) s (decimal_digits s (omega (arith, h.1))) h.0 (decimal_counts s h.1)
sign_read s false h = plain_read (decimal s) s (decimal_digits s (omega (arith, h.1))) (decimal_counts s h.1)

number_read : (n : Number) → IsWritable n.size → number_of (number_text n) ≡ Some n
number_read n h = sign_read n.size n.negative h

sign_word : (s : ℕ) (negative : Bool) → IsWritable s → IsWord (cond negative (45 ∷ decimal s) (decimal s))
sign_word s true h = minus_word (decimal s) (decimal_digits s (omega (arith, h.1)))
sign_word s false h = digits_word (decimal s) (decimal_digits s (omega (arith, h.1)))

-- ---- rows of numbers

ended_words : (ns : List Number) → AllByRecursion (λ n. IsWritable n.size) ns → AllByRecursion IsWord (ended ns)
ended_words [] h = (refl, tt)
ended_words (n ∷ ns) h = (sign_word n.size n.negative h.0, ended_words ns h.1)

both_words : (xs ys : List (List ℕ)) → AllByRecursion IsWord xs → AllByRecursion IsWord ys → AllByRecursion IsWord (xs ++ ys)
both_words [] ys h k = k
both_words (x ∷ xs) ys h k = (h.0, both_words xs ys h.1 k)

numbers_read : (ns : List Number) (rest : List (List ℕ)) → AllByRecursion (λ n. IsWritable n.size) ns → numbers_in (ended ns ++ rest) ≡ Some (ns, rest)
unfolding numbers_in digits_from
numbers_read [] rest h = refl
numbers_read (n ∷ ns) rest h =
    let e : number_of (number_text n) ≡ Some n = number_read n h.0 in
    let z : eqb n.size 0 ≡ false = ne_eqb n.size 0 (λ (q : n.size ≡ 0). omega (arith, h.0.0)) in
    rw (e, z, numbers_read ns rest h.1) refl

alone_read : (ns : List Number) → AllByRecursion (λ n. IsWritable n.size) ns → numbers_in (ended ns) ≡ Some (ns, [])
alone_read ns h = ap numbers_in (sym (append-nil (ended ns))) ∙ numbers_read ns [] h

added_read : (v number : ℕ) (ls hs : List Number) → AllByRecursion (λ n. IsWritable n.size) ls → AllByRecursion (λ n. IsWritable n.size) hs → list_all (is_in v) ls ≡ true → added_in v number (ended ls ++ ended hs) ≡ Some (Add number (map literal_of ls) hs)
added_read v number ls hs p q k =
    let a : numbers_in (ended ls ++ ended hs) ≡ Some (ls, ended hs) = numbers_read ls (ended hs) p in
    let b : numbers_in (ended hs) ≡ Some (hs, []) = alone_read hs q in
    rw (a, k, b) refl

-- ---- the line

-- no number is the word `d`
digits_not_d : (ds : List ℕ) → IsDigits ds → bytes_eq ds (codes "d") ≡ false
digits_not_d [] h = absurd h
digits_not_d (b ∷ bs) h =
    let high : b ≤ 57 = leb-true b 57 (and_parts (leb 48 b) (leb b 57) (and_parts (is_digit b) (list_all is_digit bs) h).0).1 in
    let n : eqb b 100 ≡ false = ne_eqb b 100 (λ (e : b ≡ 100). omega arith) in
    rw n refl

number_not_d : (s : ℕ) (negative : Bool) → IsWritable s → bytes_eq (cond negative (45 ∷ decimal s) (decimal s)) (codes "d") ≡ false
number_not_d s true h = refl
number_not_d s false h = digits_not_d (decimal s) (decimal_digits s (omega (arith, h.1)))

adds_clause : (v number : ℕ) (ls : List Number) (rest : List (List ℕ)) → AllByRecursion (λ n. IsWritable n.size) ls → step_behind v number (ended ls ++ rest) ≡ added_in v number (ended ls ++ rest)
adds_clause v number [] rest h = refl
adds_clause v number (l ∷ ls) rest h = let n = number_not_d l.size l.negative h.0 in rw n refl

step_read : (v number : ℕ) (ls hs : List Number) → number < number_limit → AllByRecursion (λ n. IsWritable n.size) ls → AllByRecursion (λ n. IsWritable n.size) hs → list_all (is_in v) ls ≡ true → step_of v (decimal number ∷ ended ls ++ ended hs) ≡ Some (Add number (map literal_of ls) hs)
step_read v number ls hs small p q k =
    let w : whole_of (decimal number) ≡ Some number = whole_read (decimal number) number (decimal_digits number (omega arith)) (decimal_counts number small) in
    rw w (adds_clause v number ls (ended hs) p ∙ added_read v number ls hs p q k)

no_comment : (ds rest : List ℕ) → IsDigits ds → begins_with 99 (ds ++ rest) ≡ false
no_comment [] rest h = absurd h
no_comment (b ∷ bs) rest h =
    let high : b ≤ 57 = leb-true b 57 (and_parts (leb 48 b) (leb b 57) (and_parts (is_digit b) (list_all is_digit bs) h).0).1 in
    ne_eqb b 99 (λ (e : b ≡ 99). omega arith)

line_judged : (v : ℕ) (j : Judging) (number : ℕ) (ls hs : List Number) → number < number_limit → AllByRecursion (λ n. IsWritable n.size) ls → AllByRecursion (λ n. IsWritable n.size) hs → list_all (is_in v) ls ≡ true → judge_line v j (added_line number ls hs) ≡ with_added j number (map literal_of ls) hs
line_judged v j number ls hs small p q k =
    let digits : IsDigits (decimal number) = decimal_digits number (omega arith) in
    let none : begins_with 99 (added_line number ls hs) ≡ false = no_comment (decimal number) (spaced (ended ls ++ ended hs)) digits in
    let ws : words_of (added_line number ls hs) ≡ decimal number ∷ ended ls ++ ended hs = line_words (decimal number) (ended ls ++ ended hs) (digits_word (decimal number) digits) (both_words (ended ls) (ended hs) (ended_words ls p) (ended_words hs q)) in
    let step = step_read v number ls hs small p q k in
    rw (none, ws, step) refl

line_within : (number : ℕ) (ls hs : List Number) → number < number_limit → AllByRecursion (λ n. IsWritable n.size) ls → AllByRecursion (λ n. IsWritable n.size) hs → list_all within (added_line number ls hs) ≡ true
line_within number ls hs small p q =
    both_within (decimal number) (spaced (ended ls ++ ended hs))
    (word_within (decimal number) (digits_word (decimal number) (decimal_digits number (omega arith))))
    (spaced_within (ended ls ++ ended hs) (both_words (ended ls) (ended hs) (ended_words ls p) (ended_words hs q)))

-- ---- clauses and hints

same_clause : (c : List Literal) → map literal_of (map number_in c) ≡ c
same_clause [] = refl
same_clause (l ∷ ls) =
    let same : literal_of (number_in l) ≡ l = literal_from_parts (literal_of (number_in l)) l refl (not-not l.positive) in
    ap₂ (λ x xs. x ∷ xs) same (same_clause ls)

literals_in : (v : ℕ) (c : List Literal) → AllByRecursion (λ l. (0 < l.variable) × (l.variable ≤ v)) c → list_all (is_in v) (map number_in c) ≡ true
literals_in v [] h = refl
literals_in v (l ∷ ls) h = and_both (is_in v (number_in l)) (list_all (is_in v) (map number_in ls)) (and_both (ltb 0 l.variable) (leb l.variable v) (lt-ltb 0 l.variable h.0.0) (le-leb l.variable v h.0.1)) (literals_in v ls h.1)

literals_writable : (v : ℕ) (c : List Literal) → v < 2 ^ 60 → AllByRecursion (λ l. (0 < l.variable) × (l.variable ≤ v)) c → AllByRecursion (λ n. IsWritable n.size) (map number_in c)
literals_writable v [] few h = tt
literals_writable v (l ∷ ls) few h = ((h.0.0, omega (arith, h.0.1)), literals_writable v ls few h.1)

hints_writable : (is : List ClauseId) → AllByRecursion (λ i. IsWritable i.pos) is → AllByRecursion (λ n. IsWritable n.size) (map hint_in is)
hints_writable [] h = tt
hints_writable (i ∷ is) h = (h.0, hints_writable is h.1)

unsigned : (is : List ClauseId) → are_signed (map hint_in is) ≡ false
unsigned [] = refl
unsigned (i ∷ is) = unsigned is

chain_names : (t : TableValue) (ts : List Literal) (is : List ClauseId) → ChainFrom (look_in t) ts is → ChainFrom (look_in t) ts (map name_of (map hint_in is))
chain_names t ts [] k = k
chain_names t ts (i ∷ []) k = k
chain_names t ts (i ∷ j ∷ is) k = (k.0, k.1, k.2, k.3, chain_names t (ts ++ k.1 ∷ []) (j ∷ is) k.4)

same_chain : (t : TableValue) (c : List Literal) (is : List ClauseId) → IsChain (look_in t) c is → IsChain (look_in t) c (map name_of (map hint_in is))
same_chain t c is (inl p) = inl (p.0, ap (λ xs. map name_of (map hint_in xs)) p.1)
same_chain t c is (inr p) = inr (p.0, chain_names t (map negated c) is p.1)

chain_good : (t : TableValue) (c : List Literal) (is : List ClauseId) → IsChain (look_in t) c is → is_good t c (map hint_in is) ≡ true
chain_good t c is k = (good_is_begun t c (map hint_in is)).1 (record { front = map hint_in is; rest = []; hints_are = sym (append-nil (map hint_in is)); chain = same_chain t c is k })

-- ---- a line more

pub line_reads_back : (j : Judged) (number : ℕ) (c : List Literal) (is : List ClauseId) (rest : List ℕ) → j.begun ≡ [] → MayBeAdded j number c is → lrat_goes_on j (added_text number c is ++ rest) ≡ lrat_goes_on (with_line j number c) rest
line_reads_back j number c is rest e m =
    let ls : List Number = map number_in c in
    let hs : List Number = map hint_in is in
    let line : List ℕ = added_line number ls hs in
    let p : AllByRecursion (λ n. IsWritable n.size) ls = literals_writable j.variables c m.few m.literals in
    let q : AllByRecursion (λ n. IsWritable n.size) hs = hints_writable is m.names in
    let read : judge_line j.variables j.judging line ≡ with_added j.judging number (map literal_of ls) hs = line_judged j.variables j.judging number ls hs m.writable.1 p q (literals_in j.variables c m.literals) in
    let same : map literal_of ls ≡ c = same_clause c in
    let order : leb number (length j.judging.table.clauses) ≡ false = lt-leb number (length j.judging.table.clauses) m.above in
    let good : is_good j.judging.table c hs ≡ true = chain_good j.judging.table c is m.chain in
    let taken : with_added j.judging number c hs ≡ Ok (added j.judging number c) = rw (order, unsigned is, good) refl in
    let judged : judge_line j.variables j.judging line ≡ Ok (added j.judging number c) = read ∙ ap (λ x. with_added j.judging number x hs) same ∙ taken in
    ap (λ x. lrat_goes_on j x) (append_assoc line (10 ∷ []) rest)
    ∙ ap (λ b. judge_lines j.variables j.lines j.judging (lines_from b (line ++ 10 ∷ rest))) e
    ∙ ap (judge_lines j.variables j.lines j.judging) (line_go [] line rest (line_within number ls hs m.writable.1 p q))
    ∙ lrat_line_read j.variables j.lines j.judging (added j.judging number c) line (lines_from [] rest) judged
