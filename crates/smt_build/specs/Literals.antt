-- The values of literals (SMT-LIB 2.6, section 3.1, and the theory FixedSizeBitVectors).
use Rattle.std.specs.Prelude.{ℕ, ◌+◌, ◌-◌, ◌*◌, ◌==◌, ◌^◌, ◌%◌, ◌&&◌, nat_le, nat_lt, fold, List, Option, Some, None, if◌then◌else◌}

abbrev pub bit_value : ℕ → ℕ
bit_value d = if d == 49 then 1 else 0

abbrev pub decimal_value : ℕ → ℕ
decimal_value d = if nat_le 48 d && nat_le d 57 then d - 48 else 0

abbrev pub hexadecimal_value : ℕ → ℕ
hexadecimal_value d =
    if nat_le 48 d && nat_le d 57 then d - 48
    else (if nat_le 65 d && nat_le d 70 then d - 65 + 10
    else (if nat_le 97 d && nat_le d 102 then d - 97 + 10
    else 0))

-- the number that digits are in a base
abbrev pub value_in : ℕ → (ℕ → ℕ) → List ℕ → ℕ
value_in base digit digits = fold (λ n d. base * n + digit d) 0 digits

-- a width is 1 to 128
abbrev pub width_of_numeral : List ℕ → Option ℕ
width_of_numeral digits = let n = value_in 10 decimal_value digits in if nat_le 1 n && nat_le n 128 then Some n else None

-- the number of a numeral, where it is below 2^128
abbrev pub number_of : List ℕ → Option ℕ
number_of digits = let n = value_in 10 decimal_value digits in if nat_lt n (2 ^ 128) then Some n else None

abbrev pub index_by : Option ℕ → ℕ
index_by (Some n) = if nat_lt n (2 ^ 64) then n else 2 ^ 64 - 1
index_by None = 2 ^ 64 - 1

-- the index that a numeral gives; from 2^64 on an index is as bad as the greatest one below
abbrev pub index_of : List ℕ → ℕ
index_of digits = index_by (number_of digits)

abbrev pub turn_by : ℕ → List ℕ → Option ℕ → ℕ
turn_by width digits (Some n) = if nat_lt n (2 ^ 64) then n else value_in 10 decimal_value digits % width
turn_by width digits None = value_in 10 decimal_value digits % width

-- the index of a rotation of a word; from 2^64 on it is taken modulo the width
abbrev pub turn_of : ℕ → List ℕ → ℕ
turn_of width digits = turn_by width digits (number_of digits)
