-- Each operator gives a number that fits its width.
use Rattle.std.proofs.Common.{ℕ, ◌+◌, ◌-◌, ◌*◌, ◌/◌, ◌%◌, ◌^◌, ◌<◌, Bool, true, false, arith}
use Rattle.std.specs.Prelude.{◌==◌, if◌then◌else◌}
use Rattle.std.proofs.lemmas.Nat.{pow_pos, and_le_l, or_lt, xor_lt, mod_below}
use Rattle.std.proofs.Math.Nat.{mod-le, div-le_self}
use Rattle.smt_words.specs.Words.{is_negative, not_of, and_of, or_of, xor_of, nand_of, nor_of, xnor_of, neg_of, add_of, sub_of, mul_of, udiv_of, urem_of, abs_of, sdiv_of, srem_of, smod_of, shl_of, lshr_of, ashr_of, comp_of, concat_of, extract_of, sign_extend_of, rotate_left_of, rotate_right_of}
use Rattle.smt_words.proofs.Numbers.{cat_lt, pow_le, spin_fits}
pub use Rattle.smt_words.proofs.Numbers.{repeat_fits}

-- one of two numbers that fit
either_fits : (b : Bool) (x y m : ℕ) → x < m → y < m → (if b then x else y) < m
either_fits b x y m h k = elim b as (λ v. (if v then x else y) < m) [ true ↦ h | false ↦ k ]

-- ---- bit by bit

pub not_fits : (n x : ℕ) → x < 2 ^ n → not_of n x < 2 ^ n
not_fits n x h = omega (arith, pow_pos n)

pub and_fits : (n x y : ℕ) → x < 2 ^ n → y < 2 ^ n → and_of n x y < 2 ^ n
and_fits n x y h k = omega (arith, and_le_l x y)

pub or_fits : (n x y : ℕ) → x < 2 ^ n → y < 2 ^ n → or_of n x y < 2 ^ n
or_fits n x y h k = or_lt n x y h k

pub xor_fits : (n x y : ℕ) → x < 2 ^ n → y < 2 ^ n → xor_of n x y < 2 ^ n
xor_fits n x y h k = xor_lt n x y h k

pub nand_fits : (n x y : ℕ) → x < 2 ^ n → y < 2 ^ n → nand_of n x y < 2 ^ n
nand_fits n x y h k = not_fits n (and_of n x y) (and_fits n x y h k)

pub nor_fits : (n x y : ℕ) → x < 2 ^ n → y < 2 ^ n → nor_of n x y < 2 ^ n
nor_fits n x y h k = not_fits n (or_of n x y) (or_fits n x y h k)

pub xnor_fits : (n x y : ℕ) → x < 2 ^ n → y < 2 ^ n → xnor_of n x y < 2 ^ n
xnor_fits n x y h k = not_fits n (xor_of n x y) (xor_fits n x y h k)

-- ---- modulo two to the width

pub neg_fits : (n x : ℕ) → x < 2 ^ n → neg_of n x < 2 ^ n
neg_fits n x h = mod_below (2 ^ n - x) (2 ^ n) (pow_pos n)

pub add_fits : (n x y : ℕ) → x < 2 ^ n → y < 2 ^ n → add_of n x y < 2 ^ n
add_fits n x y h k = mod_below (x + y) (2 ^ n) (pow_pos n)

pub sub_fits : (n x y : ℕ) → x < 2 ^ n → y < 2 ^ n → sub_of n x y < 2 ^ n
sub_fits n x y h k = mod_below (2 ^ n + x - y) (2 ^ n) (pow_pos n)

pub mul_fits : (n x y : ℕ) → x < 2 ^ n → y < 2 ^ n → mul_of n x y < 2 ^ n
mul_fits n x y h k = mod_below (x * y) (2 ^ n) (pow_pos n)

-- ---- quotients and remainders

pub udiv_fits : (n x y : ℕ) → x < 2 ^ n → y < 2 ^ n → udiv_of n x y < 2 ^ n
udiv_fits n x y h k = either_fits (y == 0) (2 ^ n - 1) (x / y) (2 ^ n) (omega (arith, pow_pos n)) (omega (arith, div-le_self x y))

pub urem_fits : (n x y : ℕ) → x < 2 ^ n → y < 2 ^ n → urem_of n x y < 2 ^ n
urem_fits n x y h k = either_fits (y == 0) x (x % y) (2 ^ n) h (omega (arith, mod-le x y))

pub abs_fits : (n x : ℕ) → x < 2 ^ n → abs_of n x < 2 ^ n
abs_fits n x h = either_fits (is_negative n x) (neg_of n x) x (2 ^ n) (neg_fits n x h) h

pub sdiv_fits : (n x y : ℕ) → x < 2 ^ n → y < 2 ^ n → sdiv_of n x y < 2 ^ n
sdiv_fits n x y h k =
    let q = udiv_of n (abs_of n x) (abs_of n y) in
    let plain = udiv_fits n (abs_of n x) (abs_of n y) (abs_fits n x h) (abs_fits n y k) in
    let turned = neg_fits n q plain in
    either_fits (is_negative n x) (if is_negative n y then q else neg_of n q) (if is_negative n y then neg_of n q else q) (2 ^ n)
    (either_fits (is_negative n y) q (neg_of n q) (2 ^ n) plain turned)
    (either_fits (is_negative n y) (neg_of n q) q (2 ^ n) turned plain)

pub srem_fits : (n x y : ℕ) → x < 2 ^ n → y < 2 ^ n → srem_of n x y < 2 ^ n
srem_fits n x y h k =
    let u = urem_of n (abs_of n x) (abs_of n y) in
    let plain = urem_fits n (abs_of n x) (abs_of n y) (abs_fits n x h) (abs_fits n y k) in
    either_fits (is_negative n x) (neg_of n u) u (2 ^ n) (neg_fits n u plain) plain

pub smod_fits : (n x y : ℕ) → x < 2 ^ n → y < 2 ^ n → smod_of n x y < 2 ^ n
smod_fits n x y h k =
    let u = urem_of n (abs_of n x) (abs_of n y) in
    let plain = urem_fits n (abs_of n x) (abs_of n y) (abs_fits n x h) (abs_fits n y k) in
    let turned = neg_fits n u plain in
    let s = is_negative n x in
    let t = is_negative n y in
    either_fits (u == 0) u (if s then (if t then neg_of n u else add_of n (neg_of n u) y) else (if t then add_of n u y else u)) (2 ^ n) plain
    (either_fits s (if t then neg_of n u else add_of n (neg_of n u) y) (if t then add_of n u y else u) (2 ^ n)
    (either_fits t (neg_of n u) (add_of n (neg_of n u) y) (2 ^ n) turned (add_fits n (neg_of n u) y turned k))
    (either_fits t (add_of n u y) u (2 ^ n) (add_fits n u y plain k) plain))

-- ---- shifts

pub shl_fits : (n x y : ℕ) → x < 2 ^ n → y < 2 ^ n → shl_of n x y < 2 ^ n
shl_fits n x y h k = mod_below (x * 2 ^ y) (2 ^ n) (pow_pos n)

pub lshr_fits : (n x y : ℕ) → x < 2 ^ n → y < 2 ^ n → lshr_of n x y < 2 ^ n
lshr_fits n x y h k = omega (arith, div-le_self x (2 ^ y))

pub ashr_fits : (n x y : ℕ) → x < 2 ^ n → y < 2 ^ n → ashr_of n x y < 2 ^ n
ashr_fits n x y h k =
    either_fits (is_negative n x) (not_of n (lshr_of n (not_of n x) y)) (lshr_of n x y) (2 ^ n)
    (not_fits n (lshr_of n (not_of n x) y) (lshr_fits n (not_of n x) y (not_fits n x h) k))
    (lshr_fits n x y h k)

-- ---- other widths

pub comp_fits : (n x y : ℕ) → comp_of n x y < 2 ^ 1
comp_fits n x y = either_fits (x == y) 1 0 2 (omega arith) (omega arith)

pub concat_fits : (n m x y : ℕ) → x < 2 ^ n → y < 2 ^ m → concat_of m x y < 2 ^ (n + m)
concat_fits n m x y h k = cat_lt n m x y h k

pub extract_fits : (i j x : ℕ) → extract_of i j x < 2 ^ (i - j + 1)
extract_fits i j x = mod_below (x / 2 ^ j) (2 ^ (i - j + 1)) (pow_pos (i - j + 1))

pub zero_extend_fits : (n i x : ℕ) → x < 2 ^ n → x < 2 ^ (n + i)
zero_extend_fits n i x h = omega (arith, pow_le n (n + i) (omega arith))

pub sign_extend_of_fits : (n i x : ℕ) → x < 2 ^ n → sign_extend_of n i x < 2 ^ (n + i)
sign_extend_of_fits n i x h =
    let more = pow_le n (n + i) (omega arith) in
    either_fits (is_negative n x) (2 ^ (n + i) - 2 ^ n + x) x (2 ^ (n + i)) (omega arith) (omega arith)

pub rotate_left_fits : (n i x : ℕ) → 0 < n → x < 2 ^ n → rotate_left_of n i x < 2 ^ n
rotate_left_fits n i x p h = spin_fits n (n - i % n) (i % n) x (omega (arith, mod_below i n p)) h

pub rotate_right_fits : (n i x : ℕ) → 0 < n → x < 2 ^ n → rotate_right_of n i x < 2 ^ n
rotate_right_fits n i x p h = spin_fits n (i % n) (n - i % n) x (omega (arith, mod_below i n p)) h
