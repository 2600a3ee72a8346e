-- What each rule says of numbers.
use Rattle.std.proofs.Common.{◌≡◌, ℕ, zero, suc, ◌+◌, ◌-◌, ◌*◌, ◌/◌, ◌%◌, ◌^◌, ◌<◌, ◌≤◌, Bool, true, false, refl, sym, ap, ◌∙◌, arith}
use Rattle.std.specs.Prelude.{if◌then◌else◌, nat_lt, bit_xor}
use Rattle.std.specs.Int.Bits.{xor_zero_r}
use Rattle.std.proofs.lemmas.Bool.{ne_eqb, le-ltb}
use Rattle.std.proofs.lemmas.Nat.{pow_pos, mod_below, and_mask, and_comm, or_comm, xor_comm, le_or_r, or_lt, xor_block, shr-shr, shr_high, mod_low, field_of}
use Rattle.std.proofs.Math.Pow.{mod-mod-pow}
use Rattle.std.proofs.Math.Nat.{mod-eq_of_lt, div-eq_of_lt, mod_self, sub-zero, mod-one, div-one, mod-add-div', pow-suc, add_comm, mul_comm}
use Rattle.smt_words.specs.Words.{is_negative, not_of, neg_of, and_of, or_of, xor_of, add_of, mul_of, udiv_of, urem_of, shl_of, lshr_of, ashr_of, concat_of, extract_of, sign_extend_of, rotate_left_of, rotate_right_of, repeat_of}

-- ---- bit by bit

pub not_twice : (n x : ℕ) → x < 2 ^ n → not_of n (not_of n x) ≡ x
not_twice n x h = omega arith

pub and_ones : (n x : ℕ) → x < 2 ^ n → and_of n x (2 ^ n - 1) ≡ x
and_ones n x h = and_mask x n ∙ mod-eq_of_lt h

pub or_ones : (n x : ℕ) → x < 2 ^ n → or_of n x (2 ^ n - 1) ≡ 2 ^ n - 1
or_ones n x h =
    let lt : 2 ^ n - 1 < 2 ^ n = omega (arith, pow_pos n) in
    omega (arith, le_or_r x (2 ^ n - 1), or_lt n x (2 ^ n - 1) h lt)

bit_turned : (r : ℕ) → r < 2 → bit_xor r 1 ≡ 1 - r
bit_turned zero h = refl
bit_turned (suc zero) h = refl
bit_turned (suc (suc r)) h = absurd (omega arith)

pub xor_ones : (n x : ℕ) → x < 2 ^ n → xor_of n x (2 ^ n - 1) ≡ not_of n x
xor_ones zero x h = xor_zero_r x ∙ omega arith
xor_ones (suc n) x h =
    let p = pow-suc 2 n in
    let d = x / 2 in
    let r = x % 2 in
    let whole : x ≡ d * 2 ^ 1 + r = omega (arith, mod-add-div' x 2) in
    let all : 2 ^ suc n - 1 ≡ (2 ^ n - 1) * 2 ^ 1 + 1 = omega (arith, p, pow_pos n) in
    let low : r < 2 ^ 1 = mod_below x 2 (omega arith) in
    let high : d < 2 ^ n = omega (arith, whole, h, p) in
    (λ i. bit_xor (whole i) (all i))
    ∙ xor_block 1 d (2 ^ n - 1) r 1 low (omega arith)
    ∙ (λ i. xor_ones n d high i * 2 ^ 1 + bit_turned r low i)
    ∙ omega (arith, whole, high, low, p)

-- ---- sums and products

neg_none : (n : ℕ) → neg_of n 0 ≡ 0
neg_none n = ap (λ k. k % 2 ^ n) (sub-zero (2 ^ n)) ∙ mod_self (2 ^ n)

pub neg_twice : (n x : ℕ) → x < 2 ^ n → neg_of n (neg_of n x) ≡ x
neg_twice n zero h = ap (neg_of n) (neg_none n) ∙ neg_none n
neg_twice n (suc x) h =
    let e : neg_of n (suc x) ≡ 2 ^ n - suc x = mod-eq_of_lt (let lt : 2 ^ n - suc x < 2 ^ n = omega arith in lt) in
    let f : 2 ^ n - (2 ^ n - suc x) ≡ suc x = omega arith in
    ap (neg_of n) e ∙ ap (λ k. k % 2 ^ n) f ∙ mod-eq_of_lt h

pub add_zero : (n x : ℕ) → x < 2 ^ n → add_of n x 0 ≡ x
add_zero n x h = let e : x + 0 ≡ x = omega arith in ap (λ k. k % 2 ^ n) e ∙ mod-eq_of_lt h

pub add_same : (n x : ℕ) → add_of n x x ≡ shl_of n x 1
add_same n x = let e : x + x ≡ x * 2 = omega arith in ap (λ k. k % 2 ^ n) e

pub mul_zero : (n x : ℕ) → x < 2 ^ n → mul_of n x 0 ≡ 0
mul_zero n x h = let e : x * 0 ≡ 0 = omega arith in ap (λ k. k % 2 ^ n) e ∙ mod-eq_of_lt (pow_pos n)

pub mul_one : (n x : ℕ) → x < 2 ^ n → mul_of n x 1 ≡ x
mul_one n x h = let e : x * 1 ≡ x = omega arith in ap (λ k. k % 2 ^ n) e ∙ mod-eq_of_lt h

-- ---- quotients and remainders

power_not_zero : (k : ℕ) → 2 ^ k ≡ 0 → ⊥
power_not_zero k e = omega (arith, pow_pos k, e)

pub udiv_one : (n x : ℕ) → x < 2 ^ n → udiv_of n x 1 ≡ x
udiv_one n x h = div-one x

pub udiv_zero : (n x : ℕ) → x < 2 ^ n → udiv_of n x 0 ≡ 2 ^ n - 1
udiv_zero n x h = refl

pub udiv_power : (n x k : ℕ) → udiv_of n x (2 ^ k) ≡ lshr_of n x k
udiv_power n x k = ap (λ b. if b then 2 ^ n - 1 else x / 2 ^ k) (ne_eqb (2 ^ k) 0 (power_not_zero k))

pub urem_zero : (n x : ℕ) → x < 2 ^ n → urem_of n x 0 ≡ x
urem_zero n x h = refl

pub urem_one : (n x : ℕ) → x < 2 ^ n → urem_of n x 1 ≡ 0
urem_one n x h = mod-one x

pub urem_power : (n x k : ℕ) → urem_of n x (2 ^ k) ≡ and_of n x (2 ^ k - 1)
urem_power n x k = ap (λ b. if b then x else x % 2 ^ k) (ne_eqb (2 ^ k) 0 (power_not_zero k)) ∙ sym (and_mask x k)

-- ---- shifts by nothing

pub shl_zero : (n x : ℕ) → x < 2 ^ n → shl_of n x 0 ≡ x
shl_zero n x h = let e : x * 1 ≡ x = omega arith in ap (λ k. k % 2 ^ n) e ∙ mod-eq_of_lt h

pub lshr_zero : (n x : ℕ) → x < 2 ^ n → lshr_of n x 0 ≡ x
lshr_zero n x h = div-one x

pub ashr_zero : (n x : ℕ) → x < 2 ^ n → ashr_of n x 0 ≡ x
ashr_zero n x h = go (is_negative n x) where
  go : (b : Bool) → (if b then not_of n (lshr_of n (not_of n x) 0) else lshr_of n x 0) ≡ x
  go true = ap (not_of n) (div-one (not_of n x)) ∙ not_twice n x h
  go false = div-one x

-- ---- extractions

pub extract_all : (n x i : ℕ) → i + 1 ≡ n → x < 2 ^ n → extract_of i 0 x ≡ x
extract_all n x i e h =
    let w : i - 0 + 1 ≡ n = omega (arith, e) in
    ap (λ k. k % 2 ^ (i - 0 + 1)) (div-one x) ∙ ap (λ k. x % 2 ^ k) w ∙ mod-eq_of_lt h

-- bits below m of what is kept below m
field_low : (x m i j : ℕ) → j ≤ i → i < m → extract_of i j (x % 2 ^ m) ≡ extract_of i j x
field_low x m i j le lt =
    let a : m - j + j ≡ m = omega arith in
    let b : m - j - (i - j + 1) + (i - j + 1) ≡ m - j = omega arith in
    ap (λ k. x % 2 ^ k / 2 ^ j % 2 ^ (i - j + 1)) (sym a)
    ∙ ap (λ k. k % 2 ^ (i - j + 1)) (field_of x (m - j) j)
    ∙ ap (λ k. x / 2 ^ j % 2 ^ k % 2 ^ (i - j + 1)) (sym b)
    ∙ mod-mod-pow (x / 2 ^ j) (m - j - (i - j + 1)) (i - j + 1)

pub extract_extract : (x i j k l : ℕ) → j ≤ i → i < k - l + 1 → extract_of i j (extract_of k l x) ≡ extract_of (i + l) (j + l) x
extract_extract x i j k l le lt =
    let w : i + l - (j + l) + 1 ≡ i - j + 1 = omega arith in
    let s : l + j ≡ j + l = omega arith in
    field_low (x / 2 ^ l) (k - l + 1) i j le lt
    ∙ ap (λ y. y % 2 ^ (i - j + 1)) (shr-shr x l j ∙ ap (λ y. x / 2 ^ y) s)
    ∙ ap (λ y. x / 2 ^ (j + l) % 2 ^ y) (sym w)

pub extract_low : (x y m i j : ℕ) → y < 2 ^ m → j ≤ i → i < m → extract_of i j (concat_of m x y) ≡ extract_of i j y
extract_low x y m i j h le lt = sym (field_low (x * 2 ^ m + y) m i j le lt) ∙ ap (extract_of i j) (mod_low x m y h)

pub extract_high : (x y m i j : ℕ) → y < 2 ^ m → j ≤ i → m ≤ j → extract_of i j (concat_of m x y) ≡ extract_of (i - m) (j - m) x
extract_high x y m i j h le ge =
    let s : m + (j - m) ≡ j = omega arith in
    let w : i - m - (j - m) + 1 ≡ i - j + 1 = omega arith in
    ap (λ k. (x * 2 ^ m + y) / 2 ^ k % 2 ^ (i - j + 1)) (sym s)
    ∙ ap (λ k. k % 2 ^ (i - j + 1)) (sym (shr-shr (x * 2 ^ m + y) m (j - m)) ∙ ap (λ k. k / 2 ^ (j - m)) (shr_high x m y h))
    ∙ ap (λ k. x / 2 ^ (j - m) % 2 ^ k) (sym w)

-- ---- what changes nothing

pub sign_extend_none : (n x : ℕ) → sign_extend_of n 0 x ≡ x
sign_extend_none n x = go (is_negative n x) where
  go : (b : Bool) → (if b then 2 ^ (n + 0) - 2 ^ n + x else x) ≡ x
  go true = let e : n + 0 ≡ n = omega arith in ap (λ k. 2 ^ k - 2 ^ n + x) e ∙ omega arith
  go false = refl

pub rotate_left_none : (n i x : ℕ) → i % n ≡ 0 → x < 2 ^ n → rotate_left_of n i x ≡ x
rotate_left_none n i x e h =
    ap (λ k. x % 2 ^ (n - k) * 2 ^ k + x / 2 ^ (n - k)) e
    ∙ rw (sub-zero n, mod-eq_of_lt h, div-eq_of_lt h) (omega arith)

pub rotate_right_none : (n i x : ℕ) → i % n ≡ 0 → x < 2 ^ n → rotate_right_of n i x ≡ x
rotate_right_none n i x e h =
    ap (λ k. x % 2 ^ k * 2 ^ (n - k) + x / 2 ^ k) e
    ∙ rw (mod-one x, div-one x) (omega arith)

pub repeat_one : (n x : ℕ) → repeat_of n 1 x ≡ x
repeat_one n x = omega arith

-- ---- orders

pub less_same : (x : ℕ) → nat_lt x x ≡ false
less_same x = le-ltb x x (omega arith)

pub less_zero : (x : ℕ) → nat_lt x 0 ≡ false
less_zero x = le-ltb x 0 (omega arith)

-- ---- turned arguments

pub and_turned : (n x y : ℕ) → and_of n x y ≡ and_of n y x
and_turned n x y = and_comm x y

pub or_turned : (n x y : ℕ) → or_of n x y ≡ or_of n y x
or_turned n x y = or_comm x y

pub xor_turned : (n x y : ℕ) → xor_of n x y ≡ xor_of n y x
xor_turned n x y = xor_comm x y

pub add_turned : (n x y : ℕ) → add_of n x y ≡ add_of n y x
add_turned n x y = ap (λ k. k % 2 ^ n) (add_comm x y)

pub mul_turned : (n x y : ℕ) → mul_of n x y ≡ mul_of n y x
mul_turned n x y = ap (λ k. k % 2 ^ n) (mul_comm x y)
