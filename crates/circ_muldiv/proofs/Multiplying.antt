-- The rows of a product add up to it.
use Rattle.std.proofs.Common.{◌≡◌, ℕ, suc, ◌+◌, ◌*◌, ◌%◌, ◌^◌, ◌<◌, Bool, true, false, not, ◌&&◌, List, [], ◌∷◌, ◌++◌, length, take, drop, refl, sym, ap, ◌∙◌, subst, arith}
use Rattle.std.proofs.lemmas.List.{length-take-le}
use Rattle.std.proofs.lemmas.Nat.{pow_pos, mul-mod_first}
use Rattle.std.proofs.Math.Nat.{pow-suc, mod-eq_of_lt, add-mod-mod}
use Rattle.cnf_base.specs.Literals.{Literal, false_literal}
use Rattle.cnf_base.specs.Clauses.{lit_true, number, bit}
use Rattle.cnf_base.specs.Gates.{HaveMeaning}
use Rattle.cnf_base.specs.Adders.{add_gates, add_bits, add_carry}
use Rattle.cnf_base.specs.Assignments.{fresh_bits}
use Rattle.circ_muldiv.specs.Products.{row_gates, sum_gates, sum_bits, rows_gates, rows_bits, mul_gates, mul_bits}
use Rattle.cnf_base.proofs.Numbers.{bit_lt, number_lt, low_mod, number-take}
use Rattle.cnf_base.proofs.Rows.{length-fresh_bits}
use Rattle.cnf_base.proofs.Adding.{add_number, length-add_bits}
use Rattle.circ_plain.proofs.Bits.{meaning_front, meaning_back}
use Rattle.circ_plain.proofs.Negating.{sum_mod}

-- the sum without its last carry
pub add_correct : (v : ℕ → Bool) (g : ℕ) (a b : List Literal) (c : Literal) → length a ≡ length b → HaveMeaning v g (add_gates g a b c) → number v (add_bits g a b) ≡ (number v a + number v b + bit (lit_true v c)) % 2 ^ length a
add_correct v g a b c e h =
    let lt : number v (add_bits g a b) < 2 ^ length a = subst (λ n. number v (add_bits g a b) < 2 ^ n) (length-add_bits g a b e) (number_lt v (add_bits g a b)) in
    sum_mod (number v (add_bits g a b)) (2 ^ length a) (bit (lit_true v (add_carry g a b c))) (number v a + number v b + bit (lit_true v c)) lt (add_number v g a b c e h)

bit_and_times : (p q : Bool) → bit (p && q) ≡ bit p * bit q
bit_and_times true true = refl
bit_and_times true false = refl
bit_and_times false true = refl
bit_and_times false false = refl

pub row_number : (v : ℕ → Bool) (g : ℕ) (a : List Literal) (b : Literal) → HaveMeaning v g (row_gates a b) → number v (fresh_bits g (length a)) ≡ number v a * bit (lit_true v b)
row_number v g [] b h = omega arith
row_number v g (x ∷ a) b h =
    let one = ap bit h.0 ∙ bit_and_times (lit_true v x) (lit_true v b) in
    omega (arith, one, row_number v (suc g) a b h.1)

pub length-row_gates : (a : List Literal) (b : Literal) → length (row_gates a b) ≡ length a
length-row_gates [] b = refl
length-row_gates (x ∷ a) b = ap suc (length-row_gates a b)

-- the sum of some places and a row
pub sum_number : (v : ℕ → Bool) (g : ℕ) (p a : List Literal) (b : Literal) → v 1 ≡ true → length p ≡ length a → HaveMeaning v g (sum_gates g p a b) → number v (sum_bits g p a) ≡ (number v p + number v a * bit (lit_true v b)) % 2 ^ length p
sum_number v g p a b one e h =
    let q = fresh_bits g (length a) in
    let row = row_number v g a b (meaning_front v g (row_gates a b) _ h) in
    let add = subst (λ k. HaveMeaning v (g + k) (add_gates (g + length a) p q false_literal)) (length-row_gates a b) (meaning_back v g (row_gates a b) _ h) in
    let same : length p ≡ length q = e ∙ sym (length-fresh_bits (length a) g) in
    let none : bit (lit_true v false_literal) ≡ 0 = ap (λ t. bit (not t)) one in
    add_correct v (g + length a) p q false_literal same add
    ∙ ap (λ k. k % 2 ^ length p) (let e' : number v p + number v q + bit (lit_true v false_literal) ≡ number v p + number v a * bit (lit_true v b) = omega (arith, row, none) in e')

pub length-sum_bits : (g : ℕ) (p a : List Literal) → length p ≡ length a → length (sum_bits g p a) ≡ length p
length-sum_bits g p a e = length-add_bits (g + length a) p (fresh_bits g (length a)) (e ∙ sym (length-fresh_bits (length a) g))

-- the arithmetic of one row: s and t are the low bit and the rest of the sum
row_step : (h a b s t c k p : ℕ) → s < 2 → 0 < k → p ≡ 2 * k → s + 2 * t ≡ (h + a * b) % p → s + 2 * ((t + (a % k) * c) % k) ≡ (h + a * (b + 2 * c)) % p
row_step h a b s t c k p hs hk ep e =
    let one : (t + (a % k) * c) % k ≡ (t + a * c) % k =
    sym (add-mod-mod t ((a % k) * c) k) ∙ ap (λ n. (t + n) % k) (mul-mod_first a c k) ∙ add-mod-mod t (a * c) k in
    let two : s + 2 * ((t + a * c) % k) ≡ (s + 2 * (t + a * c)) % (2 * k) = sym (low_mod s (t + a * c) k hs hk) in
    let three : (s + 2 * (t + a * c)) % p ≡ (2 * (a * c) + (h + a * b) % p) % p =
    ap (λ n. n % p) (let q : s + 2 * (t + a * c) ≡ 2 * (a * c) + (s + 2 * t) = omega arith in q ∙ ap (λ n. 2 * (a * c) + n) e) in
    let four : (2 * (a * c) + (h + a * b)) ≡ h + a * (b + 2 * c) = omega arith in
    ap (λ n. s + 2 * n) one ∙ two ∙ ap (λ n. (s + 2 * (t + a * c)) % n) (sym ep) ∙ three ∙ add-mod-mod (2 * (a * c)) (h + a * b) p ∙ ap (λ n. n % p) four

-- a row of bits is its lowest and the rest
first_and_rest : (v : ℕ → Bool) (s rest : List Literal) (n : ℕ) → length s ≡ suc n → (x : ℕ) × (x < 2) × (number v s ≡ x + 2 * number v (drop 1 s)) × (number v (take 1 s ++ rest) ≡ x + 2 * number v rest)
first_and_rest v [] rest n e = absurd (omega arith)
first_and_rest v (l ∷ s) rest n e = (bit (lit_true v l), bit_lt (lit_true v l), refl, refl)

pub length-rest : (s : List Literal) (n : ℕ) → length s ≡ suc n → length (drop 1 s) ≡ n
length-rest [] n e = absurd (omega arith)
length-rest (l ∷ s) n e = omega arith

pub rows_number : (v : ℕ → Bool) (g : ℕ) (p a bs : List Literal) → v 1 ≡ true → length p ≡ length bs → length a ≡ length bs → HaveMeaning v g (rows_gates g p a bs) → number v (rows_bits g p a bs) ≡ (number v p + number v a * number v bs) % 2 ^ length bs
rows_number v g [] [] [] one ep ea m = omega arith
rows_number v g (x ∷ p) a [] one ep ea m = absurd (omega arith)
rows_number v g [] (x ∷ a) [] one ep ea m = absurd (omega arith)
rows_number v g p a (b ∷ bs) one ep ea m =
    let n = length bs in
    let ks = sum_gates g p a b in
    let s = sum_bits g p a in
    let same : length p ≡ length a = ep ∙ sym ea in
    let sum = sum_number v g p a b one same (meaning_front v g ks _ m) in
    let ls : length s ≡ suc n = length-sum_bits g p a same ∙ ep in
    let rest = rows_number v (g + length ks) (drop 1 s) (take n a) bs one (length-rest s n ls) (length-take-le n a (omega (arith, ea))) (meaning_back v g ks _ m) in
    let parts = first_and_rest v s (rows_bits (g + length ks) (drop 1 s) (take n a) bs) n ls in
    let p2 : 2 ^ suc n ≡ 2 * 2 ^ n = omega (arith, pow-suc 2 n) in
    let total : parts.0 + 2 * number v (drop 1 s) ≡ (number v p + number v a * bit (lit_true v b)) % 2 ^ suc n = sym parts.2 ∙ sum ∙ ap (λ k. (number v p + number v a * bit (lit_true v b)) % 2 ^ k) ep in
    parts.3
    ∙ ap (λ k. parts.0 + 2 * k) (rest ∙ rw (number-take v n a) refl)
    ∙ row_step (number v p) (number v a) (bit (lit_true v b)) parts.0 (number v (drop 1 s)) (number v bs) (2 ^ n) (2 ^ suc n) parts.1 (pow_pos n) p2 total

times_bit : (x n : ℕ) (b : Bool) → x < n → x * bit b < n
times_bit x n true h = omega arith
times_bit x n false h = omega arith

pub mul_correct : (v : ℕ → Bool) (g : ℕ) (a b : List Literal) → v 1 ≡ true → length a ≡ length b → HaveMeaning v g (mul_gates g a b) → number v (mul_bits g a b) ≡ (number v a * number v b) % 2 ^ length a
mul_correct v g [] [] one e m = refl
mul_correct v g (x ∷ a) [] one e m = absurd (omega arith)
mul_correct v g a (b ∷ bs) one e m =
    let n = length bs in
    let s = fresh_bits g (length a) in
    let row = row_number v g a b (meaning_front v g (row_gates a b) _ m) in
    let ls : length s ≡ suc n = length-fresh_bits (length a) g ∙ e in
    let back = subst (λ k. HaveMeaning v (g + k) (rows_gates (g + length a) (drop 1 s) (take n a) bs)) (length-row_gates a b) (meaning_back v g (row_gates a b) _ m) in
    let rest = rows_number v (g + length a) (drop 1 s) (take n a) bs one (length-rest s n ls) (length-take-le n a (omega (arith, e))) back in
    let parts = first_and_rest v s (rows_bits (g + length a) (drop 1 s) (take n a) bs) n ls in
    let p2 : 2 ^ suc n ≡ 2 * 2 ^ n = omega (arith, pow-suc 2 n) in
    let fits : number v a * bit (lit_true v b) < 2 ^ suc n = times_bit (number v a) (2 ^ suc n) (lit_true v b) (subst (λ k. number v a < 2 ^ k) e (number_lt v a)) in
    let total : parts.0 + 2 * number v (drop 1 s) ≡ (0 + number v a * bit (lit_true v b)) % 2 ^ suc n =
    sym parts.2 ∙ row ∙ sym (mod-eq_of_lt fits) ∙ ap (λ k. k % 2 ^ suc n) (let z : number v a * bit (lit_true v b) ≡ 0 + number v a * bit (lit_true v b) = omega arith in z) in
    parts.3
    ∙ ap (λ k. parts.0 + 2 * k) (rest ∙ rw (number-take v n a) refl)
    ∙ row_step 0 (number v a) (bit (lit_true v b)) parts.0 (number v (drop 1 s)) (number v bs) (2 ^ n) (2 ^ suc n) parts.1 (pow_pos n) p2 total
    ∙ ap (λ k. (0 + number v a * number v (b ∷ bs)) % 2 ^ k) (sym e)
    ∙ ap (λ k. k % 2 ^ length a) (let z : 0 + number v a * number v (b ∷ bs) ≡ number v a * number v (b ∷ bs) = omega arith in z)
