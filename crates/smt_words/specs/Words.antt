-- Words, and their operators as functions on whole numbers: the theory FixedSizeBitVectors and the
-- abbreviations of the logic QF_BV (SMT-LIB 2.6), with a bit vector of width n read as the number
-- below 2 ^ n that bv2nat gives. The width n of the (first) argument comes first.
use Rattle.std.specs.Prelude.{ℕ, zero, suc, ◌+◌, ◌-◌, ◌*◌, ◌/◌, ◌%◌, ◌^◌, ◌<◌, ◌≤◌, ◌==◌, nat_lt, nat_le, Bool, if◌then◌else◌, bit_and, bit_or, bit_xor, ℤ, pos, ◌-ℤ◌, int_lt, int_le}

-- a word: its width, and its value as a number
pub record WordValue : Type 0 where
  pub width : ℕ
  pub value : ℕ

-- a width is from 1 to 128
abbrev pub IsWidth : ℕ → Type 0
IsWidth n = (0 < n) × (n ≤ 128)

-- a word of a width has a value that fits it
abbrev pub IsWord : ℕ → ℕ → Type 0
IsWord n v = (0 < n) × (n ≤ 128) × (v < 2 ^ n)

abbrev pub word : ℕ → ℕ → WordValue
word n v = record { width = n; value = v }

-- ---- bit by bit

abbrev pub not_of : ℕ → ℕ → ℕ
not_of n x = 2 ^ n - 1 - x

abbrev pub and_of : ℕ → ℕ → ℕ → ℕ
and_of n x y = bit_and x y

abbrev pub or_of : ℕ → ℕ → ℕ → ℕ
or_of n x y = bit_or x y

abbrev pub xor_of : ℕ → ℕ → ℕ → ℕ
xor_of n x y = bit_xor x y

abbrev pub nand_of : ℕ → ℕ → ℕ → ℕ
nand_of n x y = not_of n (bit_and x y)

abbrev pub nor_of : ℕ → ℕ → ℕ → ℕ
nor_of n x y = not_of n (bit_or x y)

abbrev pub xnor_of : ℕ → ℕ → ℕ → ℕ
xnor_of n x y = not_of n (bit_xor x y)

-- ---- modulo two to the width

abbrev pub neg_of : ℕ → ℕ → ℕ
neg_of n x = (2 ^ n - x) % 2 ^ n

abbrev pub add_of : ℕ → ℕ → ℕ → ℕ
add_of n x y = (x + y) % 2 ^ n

abbrev pub sub_of : ℕ → ℕ → ℕ → ℕ
sub_of n x y = (2 ^ n + x - y) % 2 ^ n

abbrev pub mul_of : ℕ → ℕ → ℕ → ℕ
mul_of n x y = (x * y) % 2 ^ n

-- ---- quotients and remainders, total at 0

abbrev pub udiv_of : ℕ → ℕ → ℕ → ℕ
udiv_of n x y = if y == 0 then 2 ^ n - 1 else x / y

abbrev pub urem_of : ℕ → ℕ → ℕ → ℕ
urem_of n x y = if y == 0 then x else x % y

-- the sign bit is 1
abbrev pub is_negative : ℕ → ℕ → Bool
is_negative n x = nat_le (2 ^ (n - 1)) x

-- the absolute value; that of the least signed value is itself
abbrev pub abs_of : ℕ → ℕ → ℕ
abs_of n x = if is_negative n x then neg_of n x else x

-- rounded towards 0
abbrev pub sdiv_of : ℕ → ℕ → ℕ → ℕ
sdiv_of n x y =
    let q = udiv_of n (abs_of n x) (abs_of n y) in
    if is_negative n x then (if is_negative n y then q else neg_of n q) else (if is_negative n y then neg_of n q else q)

-- the sign is the dividend's
abbrev pub srem_of : ℕ → ℕ → ℕ → ℕ
srem_of n x y =
    let r = urem_of n (abs_of n x) (abs_of n y) in
    if is_negative n x then neg_of n r else r

-- the sign is the divisor's
abbrev pub smod_of : ℕ → ℕ → ℕ → ℕ
smod_of n x y =
    let u = urem_of n (abs_of n x) (abs_of n y) in
    if u == 0 then u
    else if is_negative n x then (if is_negative n y then neg_of n u else add_of n (neg_of n u) y)
    else (if is_negative n y then add_of n u y else u)

-- ---- shifts, by any amount

abbrev pub shl_of : ℕ → ℕ → ℕ → ℕ
shl_of n x y = (x * 2 ^ y) % 2 ^ n

abbrev pub lshr_of : ℕ → ℕ → ℕ → ℕ
lshr_of n x y = x / 2 ^ y

abbrev pub ashr_of : ℕ → ℕ → ℕ → ℕ
ashr_of n x y = if is_negative n x then not_of n (lshr_of n (not_of n x) y) else lshr_of n x y

-- ---- orders

-- the two's complement value
abbrev pub signed_of : ℕ → ℕ → ℤ
signed_of n x = if is_negative n x then pos x -ℤ pos (2 ^ n) else pos x

abbrev pub ult_of : ℕ → ℕ → ℕ → Bool
ult_of n x y = nat_lt x y

abbrev pub ule_of : ℕ → ℕ → ℕ → Bool
ule_of n x y = nat_le x y

abbrev pub slt_of : ℕ → ℕ → ℕ → Bool
slt_of n x y = int_lt (signed_of n x) (signed_of n y)

abbrev pub sle_of : ℕ → ℕ → ℕ → Bool
sle_of n x y = int_le (signed_of n x) (signed_of n y)

abbrev pub comp_of : ℕ → ℕ → ℕ → ℕ
comp_of n x y = if x == y then 1 else 0

-- ---- other widths

-- x above y, which has m bits
abbrev pub concat_of : ℕ → ℕ → ℕ → ℕ
concat_of m x y = x * 2 ^ m + y

-- the places j to i
abbrev pub extract_of : ℕ → ℕ → ℕ → ℕ
extract_of i j x = x / 2 ^ j % 2 ^ (i - j + 1)

-- i copies of the sign bit more
abbrev pub sign_extend_of : ℕ → ℕ → ℕ → ℕ
sign_extend_of n i x = if is_negative n x then 2 ^ (n + i) - 2 ^ n + x else x

-- the low n - i places go up, the others down
abbrev pub rotate_left_of : ℕ → ℕ → ℕ → ℕ
rotate_left_of n i x = x % 2 ^ (n - i % n) * 2 ^ (i % n) + x / 2 ^ (n - i % n)

abbrev pub rotate_right_of : ℕ → ℕ → ℕ → ℕ
rotate_right_of n i x = x % 2 ^ (i % n) * 2 ^ (n - i % n) + x / 2 ^ (i % n)

-- i copies
abbrev pub repeat_of : ℕ → ℕ → ℕ → ℕ
repeat_of n zero x = 0
repeat_of n (suc i) x = repeat_of n i x * 2 ^ n + x
