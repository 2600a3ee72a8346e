-- The numbers of rows of wires.
use Rattle.std.proofs.Common.{◌≡◌, ℕ, zero, suc, ◌+◌, ◌-◌, ◌*◌, ◌/◌, ◌%◌, ◌^◌, ◌<◌, ◌≤◌, Bool, true, false, not, List, ◌++◌, length, take, drop, refl, ap, ◌∙◌, arith}
use Rattle.std.specs.Prelude.{if◌then◌else◌, ◌==◌, replicate}
use Rattle.std.proofs.lemmas.List.{length-append, length-drop, length-take-le, length-replicate}
use Rattle.std.proofs.Math.Nat.{pow-suc, mod-lt}
use Rattle.std.proofs.lemmas.Nat.{pow-add, pow_pos}
use Rattle.cnf_base.specs.Literals.{Literal, true_literal, false_literal}
use Rattle.cnf_base.specs.Clauses.{lit_true, number, bit}
use Rattle.cnf_base.proofs.Numbers.{bit-parity, number-append, number-take, number-drop}
use Rattle.smt_words.specs.Words.{extract_of, sign_extend_of, rotate_left_of, rotate_right_of, repeat_of}
use Rattle.circ_plain.specs.Signs.{sign_of}
use Rattle.circ_plain.proofs.Bits.{false_is_false, number-replicate_false, number-replicate_true}
use Rattle.circ_plain.proofs.Negating.{sign_is}
use Rattle.bit_blast.specs.Circuits.{literal_bits, rotated, repeated, extracted}

-- ---- literals

pub length-literal_bits : (n x : ℕ) → length (literal_bits n x) ≡ n
length-literal_bits zero x = refl
length-literal_bits (suc n) x = ap suc (length-literal_bits n (x / 2))

choice_bit : (v : ℕ → Bool) (b : Bool) → v 1 ≡ true → lit_true v (if b then true_literal else false_literal) ≡ b
choice_bit v true one = one
choice_bit v false one = ap not one

pub literal_number : (v : ℕ → Bool) (n x : ℕ) → v 1 ≡ true → x < 2 ^ n → number v (literal_bits n x) ≡ x
literal_number v zero x one lt = omega arith
literal_number v (suc n) x one lt =
    let half : x / 2 < 2 ^ n = omega (arith, pow-suc 2 n) in
    let low = ap bit (choice_bit v (x % 2 == 1) one) ∙ bit-parity x in
    omega (arith, literal_number v n (x / 2) one half, low)

-- ---- a row cut at a place

pub extract_number : (v : ℕ → Bool) (i j : ℕ) (a : List Literal) → j ≤ i → number v (extracted i j a) ≡ extract_of i j (number v a)
extract_number v i j a le =
    let e : i + 1 - j ≡ i - j + 1 = omega arith in
    number-take v (i + 1 - j) (drop j a) ∙ ap (λ m. number v (drop j a) % 2 ^ m) e ∙ ap (λ m. m % 2 ^ (i - j + 1)) (number-drop v j a)

pub length-extracted : (i j : ℕ) (a : List Literal) → j ≤ i → i < length a → length (extracted i j a) ≡ i - j + 1
length-extracted i j a le lt =
    let rest = length-drop j a in
    let fits : i + 1 - j ≤ length (drop j a) = omega (arith, rest) in
    let e : i + 1 - j ≡ i - j + 1 = omega arith in
    length-take-le (i + 1 - j) (drop j a) fits ∙ e

-- ---- more bits on top

pub zero_extend_number : (v : ℕ → Bool) (i : ℕ) (a : List Literal) → v 1 ≡ true → number v (a ++ replicate i false_literal) ≡ number v a
zero_extend_number v i a one =
    number-append v a (replicate i false_literal)
    ∙ ap (λ m. number v a + 2 ^ length a * m) (number-replicate_false v i false_literal (false_is_false v one))
    ∙ (omega arith)

-- n bits above a number of n bits that are all 1
all_above : (p q r x : ℕ) → r ≡ p * q → 0 < q → x + p * (q - 1) ≡ r - p + x
all_above p zero r x e lt = absurd (omega arith)
all_above p (suc q) r x e lt =
    let one : suc q - 1 ≡ q = omega arith in
    let more : p * suc q ≡ p * q + p = omega arith in
    ap (λ m. x + p * m) one ∙ (omega (arith, e, more))

pub sign_extend_number : (v : ℕ → Bool) (i : ℕ) (a : List Literal) → 0 < length a → number v (a ++ replicate i (sign_of a)) ≡ sign_extend_of (length a) i (number v a)
sign_extend_number v i a some =
    number-append v a (replicate i (sign_of a))
    ∙ go (lit_true v (sign_of a)) refl
    ∙ ap (λ b. if b then 2 ^ (length a + i) - 2 ^ length a + number v a else number v a) (sign_is v a some)
  where
    go : (b : Bool) → lit_true v (sign_of a) ≡ b → number v a + 2 ^ length a * number v (replicate i (sign_of a)) ≡ (if b then 2 ^ (length a + i) - 2 ^ length a + number v a else number v a)
    go true e =
        ap (λ m. number v a + 2 ^ length a * m) (number-replicate_true v i (sign_of a) e)
        ∙ all_above (2 ^ length a) (2 ^ i) (2 ^ (length a + i)) (number v a) (pow-add 2 (length a) i) (pow_pos i)
    go false e =
        ap (λ m. number v a + 2 ^ length a * m) (number-replicate_false v i (sign_of a) e) ∙ (omega arith)

pub length-extended : (a : List Literal) (i : ℕ) (l : Literal) → length (a ++ replicate i l) ≡ length a + i
length-extended a i l = length-append a (replicate i l) ∙ ap (λ m. length a + m) (length-replicate i l)

-- ---- rotations

pub length-rotated : (k : ℕ) (a : List Literal) → k ≤ length a → length (rotated k a) ≡ length a
length-rotated k a le =
    length-append (drop (length a - k) a) (take (length a - k) a)
    ∙ (omega (arith, length-drop (length a - k) a, length-take-le (length a - k) a (omega arith)))

turned : (p q r s : ℕ) → p + q * r ≡ r * q + p
turned p q r s = omega arith

pub rotated_number : (v : ℕ → Bool) (k : ℕ) (a : List Literal) → k ≤ length a → number v (rotated k a) ≡ number v a % 2 ^ (length a - k) * 2 ^ k + number v a / 2 ^ (length a - k)
rotated_number v k a le =
    let m = length a - k in
    let high : length (drop m a) ≡ k = omega (arith, length-drop m a) in
    number-append v (drop m a) (take m a)
    ∙ ap (λ n. number v (drop m a) + 2 ^ n * number v (take m a)) high
    ∙ rw (number-drop v m a, number-take v m a) (turned (number v a / 2 ^ m) (2 ^ k) (number v a % 2 ^ m) 0)

pub rotate_left_number : (v : ℕ → Bool) (i : ℕ) (a : List Literal) → 0 < length a → number v (rotated (i % length a) a) ≡ rotate_left_of (length a) i (number v a)
rotate_left_number v i a some =
    let lt : i % length a < length a = mod-lt i some in
    rotated_number v (i % length a) a (omega (arith, lt))

pub rotate_right_number : (v : ℕ → Bool) (i : ℕ) (a : List Literal) → 0 < length a → number v (rotated (length a - i % length a) a) ≡ rotate_right_of (length a) i (number v a)
rotate_right_number v i a some =
    let lt : i % length a < length a = mod-lt i some in
    let e : length a - (length a - i % length a) ≡ i % length a = omega (arith, lt) in
    rotated_number v (length a - i % length a) a (omega arith)
    ∙ ap (λ m. number v a % 2 ^ m * 2 ^ (length a - i % length a) + number v a / 2 ^ m) e

-- ---- copies

pub repeat_number : (v : ℕ → Bool) (i : ℕ) (a : List Literal) → number v (repeated i a) ≡ repeat_of (length a) i (number v a)
repeat_number v zero a = refl
repeat_number v (suc i) a =
    number-append v a (repeated i a)
    ∙ ap (λ m. number v a + 2 ^ length a * m) (repeat_number v i a)
    ∙ turned (number v a) (2 ^ length a) (repeat_of (length a) i (number v a)) 0

pub length-repeated : (i : ℕ) (a : List Literal) → length (repeated i a) ≡ length a * i
length-repeated zero a = omega arith
length-repeated (suc i) a = length-append a (repeated i a) ∙ (omega (arith, length-repeated i a))
