-- The bits of operators of one argument, of literals and of rows side by side are those of their values.
use Rattle.std.proofs.Common.{◌≡◌, ℕ, ◌+◌, ◌-◌, ◌*◌, ◌%◌, ◌^◌, ◌<◌, ◌≤◌, Bool, true, false, ◌&&◌, List, [], ◌∷◌, ◌++◌, length, refl, ◌∙◌, arith}
use Rattle.std.specs.Prelude.{if◌then◌else◌, nat_le, nat_lt, map, replicate, Result, Ok, Err}
use Rattle.std.proofs.lemmas.Bool.Decides.{nat_tests}
use Rattle.std.proofs.lemmas.List.{length-map, length-append}
use Rattle.std.proofs.Math.Nat.{mod-lt}
use Rattle.cnf_base.specs.Literals.{Literal, negated, false_literal}
use Rattle.cnf_base.specs.Clauses.{number}
use Rattle.cnf_base.specs.Gates.{HaveMeaning}
use Rattle.cnf_base.proofs.Numbers.{number-append}
use Rattle.smt_words.specs.Words.{not_of, neg_of, extract_of, sign_extend_of, rotate_left_of, rotate_right_of, repeat_of, concat_of}
use Rattle.circ_plain.specs.Signs.{sign_of}
use Rattle.circ_plain.proofs.Negating.{neg_number, length-neg_bits}
use Rattle.circ_plain.proofs.Bits.{false_is_false, number-replicate_false}
use Rattle.smt_terms.specs.declared.sort.Sort.{Sort}
use Rattle.smt_terms.specs.declared.fault.MakeFault.{MakeFault}
use Rattle.smt_terms.specs.declared.fault.MakeFault.TheVariants.{WrongSort}
use Rattle.smt_terms.specs.Ranks.{word_sort, extract_sort, literal_sort}
use Rattle.smt_terms.specs.Values.{VWord}
use Rattle.bit_blast.specs.Circuits.{negation, literal_bits, extracted, turned_left, turned_right, repeated}
use Rattle.bit_blast.specs.Meanings.{AreBitsOf}
use Rattle.bit_blast.proofs.Bitwise.{negated_number}
use Rattle.bit_blast.proofs.Wires.{length-literal_bits, literal_number, extract_number, length-extracted, zero_extend_number, sign_extend_number, length-extended, length-rotated, rotate_left_number, rotate_right_number, repeat_number, length-repeated}
use Rattle.bit_blast.proofs.Correct.{word_sort_is, as_word}

-- two tests in a row were passed
both_passed : (p q : Bool) (n : ℕ) (s : Sort) → ◌≡◌ {A = Result Sort MakeFault} (if p && q then word_sort n else Err (WrongSort 0)) (Ok s) → (p ≡ true) × (q ≡ true) × (word_sort n ≡ Ok s)
both_passed true true n s e = (refl, refl, e)
both_passed true false n s e = let f : ⊥ = cc in absurd f
both_passed false q n s e = let f : ⊥ = cc in absurd f

one_passed : (p : Bool) (n : ℕ) (s : Sort) → ◌≡◌ {A = Result Sort MakeFault} (if p then word_sort n else Err (WrongSort 0)) (Ok s) → (p ≡ true) × (word_sort n ≡ Ok s)
one_passed true n s e = (refl, e)
one_passed false n s e = let f : ⊥ = cc in absurd f

pub literal_means : (v : ℕ → Bool) (n x : ℕ) (s : Sort) → v 1 ≡ true → literal_sort n x ≡ Ok s → AreBitsOf v s (literal_bits n x) (VWord n x)
literal_means v n x s one e =
    let p = one_passed (nat_lt x (2 ^ n)) n s e in
    let lt : x < 2 ^ n = grind (arith, nat_tests, p.0) in
    as_word v n x s (literal_bits n x) (word_sort_is n s p.1) (length-literal_bits n x) (literal_number v n x one lt)

pub not_means : (v : ℕ → Bool) (a : List Literal) (s : Sort) → word_sort (length a) ≡ Ok s → AreBitsOf v s (map negated a) (VWord (length a) (not_of (length a) (number v a)))
not_means v a s e = as_word v (length a) _ s _ (word_sort_is (length a) s e) (length-map a negated) (negated_number v a (length a) (number v a) refl refl)

pub neg_means : (v : ℕ → Bool) (g : ℕ) → v 1 ≡ true → (a : List Literal) (s : Sort) → word_sort (length a) ≡ Ok s → HaveMeaning v g (negation a g).gates → AreBitsOf v s (negation a g).bits (VWord (length a) (neg_of (length a) (number v a)))
neg_means v g one a s e h = as_word v (length a) _ s _ (word_sort_is (length a) s e) (length-neg_bits g a) (neg_number v g a one h)

pub extract_means : (v : ℕ → Bool) (i j : ℕ) (a : List Literal) (s : Sort) → extract_sort i j (length a) ≡ Ok s → AreBitsOf v s (extracted i j a) (VWord (i - j + 1) (extract_of i j (number v a)))
extract_means v i j a s e =
    let p = both_passed (nat_le j i) (nat_lt i (length a)) (i - j + 1) s e in
    let le : j ≤ i = grind (arith, nat_tests, p.0) in
    let lt : i < length a = grind (arith, nat_tests, p.1) in
    as_word v (i - j + 1) _ s _ (word_sort_is (i - j + 1) s p.2) (length-extracted i j a le lt) (extract_number v i j a le)

pub zero_extend_means : (v : ℕ → Bool) (i : ℕ) → v 1 ≡ true → (a : List Literal) (s : Sort) → word_sort (length a + i) ≡ Ok s → AreBitsOf v s (a ++ replicate i false_literal) (VWord (length a + i) (number v a))
zero_extend_means v i one a s e = as_word v (length a + i) _ s _ (word_sort_is (length a + i) s e) (length-extended a i false_literal) (zero_extend_number v i a one)

sign_number : (v : ℕ → Bool) (i : ℕ) → v 1 ≡ true → (a : List Literal) → number v (a ++ replicate i (sign_of a)) ≡ sign_extend_of (length a) i (number v a)
sign_number v i one [] = number-replicate_false v i false_literal (false_is_false v one)
sign_number v i one (l ∷ a) = sign_extend_number v i (l ∷ a) (omega arith)

pub sign_extend_means : (v : ℕ → Bool) (i : ℕ) → v 1 ≡ true → (a : List Literal) (s : Sort) → word_sort (length a + i) ≡ Ok s → AreBitsOf v s (a ++ replicate i (sign_of a)) (VWord (length a + i) (sign_extend_of (length a) i (number v a)))
sign_extend_means v i one a s e = as_word v (length a + i) _ s _ (word_sort_is (length a + i) s e) (length-extended a i (sign_of a)) (sign_number v i one a)

-- a word has a bit
some_width : (a : List Literal) (s : Sort) → word_sort (length a) ≡ Ok s → 0 < length a
some_width [] s e = let f : ⊥ = cc in absurd f
some_width (l ∷ a) s e = omega arith

pub rotate_left_means : (v : ℕ → Bool) (i : ℕ) (a : List Literal) (s : Sort) → word_sort (length a) ≡ Ok s → AreBitsOf v s (turned_left i a) (VWord (length a) (rotate_left_of (length a) i (number v a)))
rotate_left_means v i a s e =
    let some = some_width a s e in
    as_word v (length a) _ s _ (word_sort_is (length a) s e) (length-rotated (i % length a) a (turn_fits i (length a) some)) (rotate_left_number v i a some)
  where
    turn_fits : (i n : ℕ) → 0 < n → i % n ≤ n
    turn_fits i n h = let lt : i % n < n = mod-lt i h in omega (arith, lt)

pub rotate_right_means : (v : ℕ → Bool) (i : ℕ) (a : List Literal) (s : Sort) → word_sort (length a) ≡ Ok s → AreBitsOf v s (turned_right i a) (VWord (length a) (rotate_right_of (length a) i (number v a)))
rotate_right_means v i a s e =
    let some = some_width a s e in
    as_word v (length a) _ s _ (word_sort_is (length a) s e) (length-rotated (length a - i % length a) a (omega arith)) (rotate_right_number v i a some)

pub repeat_means : (v : ℕ → Bool) (i : ℕ) (a : List Literal) (s : Sort) → word_sort (length a * i) ≡ Ok s → AreBitsOf v s (repeated i a) (VWord (length a * i) (repeat_of (length a) i (number v a)))
repeat_means v i a s e = as_word v (length a * i) _ s _ (word_sort_is (length a * i) s e) (length-repeated i a) (repeat_number v i a)

pub concat_means : (v : ℕ → Bool) (a b : List Literal) (s : Sort) → word_sort (length a + length b) ≡ Ok s → AreBitsOf v s (b ++ a) (VWord (length a + length b) (concat_of (length b) (number v a) (number v b)))
concat_means v a b s e =
    as_word v (length a + length b) _ s _ (word_sort_is (length a + length b) s e)
    (length-append b a ∙ (omega arith)) (number-append v b a ∙ (omega arith))
