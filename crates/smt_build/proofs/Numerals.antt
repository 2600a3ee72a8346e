-- The width that a numeral gives, digit by digit.
use Rattle.std.proofs.Common.{◌≡◌, ℕ, ◌+◌, ◌-◌, ◌*◌, ◌/◌, ◌^◌, ◌%◌, ◌<◌, ◌≤◌, List, [], ◌∷◌, length, get_or, drop, refl, ap, sym, ◌∙◌, arith, rules, tests, Option, Some, None}
use Rattle.std.specs.Prelude.{fold, nat_le, nat_lt, ◌&&◌, if◌then◌else◌}
use Rattle.std.proofs.Math.Nat.{mod-add-mod, mod-mod, mod-eq_of_lt}
use Rattle.std.proofs.lemmas.Nat.{mul-mod_second, div-add-mod', mod_below}
use Rattle.std.proofs.lemmas.List.{drop_more, drop_all}
use Rattle.smt_build.specs.Literals.{decimal_value, width_of_numeral, number_of}

abbrev pub from : ℕ → List ℕ → ℕ
from n digits = fold (λ v d. 10 * v + decimal_value d) n digits

at_least : (n : ℕ) (digits : List ℕ) → n ≤ from n digits
at_least n [] = omega arith
at_least n (d ∷ digits) = omega (arith, at_least (10 * n + decimal_value d) digits)

abbrev chosen : ℕ → Option ℕ
chosen n = if nat_le 1 n && nat_le n 128 then Some n else None

too_wide : (n : ℕ) → 128 < n → None ≡ chosen n
too_wide n h = search (rules, tests)

nothing : (n : ℕ) → n ≡ 0 → None ≡ chosen n
nothing n h = search (rules, tests)

a_width : (n : ℕ) → 1 ≤ n → n ≤ 128 → Some n ≡ chosen n
a_width n h k = search (rules, tests)

-- so many digits were read
pub record HasRead (digits : List ℕ) (i value : ℕ) : Type 0 where
  pub same : from 0 digits ≡ from value (drop i digits)
  pub small : value ≤ 128

pub read_none : (digits : List ℕ) → HasRead digits 0 0
read_none digits = record { same = refl; small = omega arith }

read_one : (digits : List ℕ) (i value d next : ℕ) → i < length digits → HasRead digits i value → next ≡ 10 * value + decimal_value (get_or digits i d) → from 0 digits ≡ from next (drop (i + 1) digits)
read_one digits i value d next h r e = r.same ∙ rw (drop_more digits i d h, e) refl

pub read_more : (digits : List ℕ) (i value d next : ℕ) → i < length digits → HasRead digits i value → next ≡ 10 * value + decimal_value (get_or digits i d) → next ≤ 128 → HasRead digits (i + 1) next
read_more digits i value d next h r e l = record { same = read_one digits i value d next h r e; small = l }

pub read_wide : (digits : List ℕ) (i value d next : ℕ) → i < length digits → HasRead digits i value → next ≡ 10 * value + decimal_value (get_or digits i d) → 128 < next → None ≡ width_of_numeral digits
read_wide digits i value d next h r e l = too_wide (from 0 digits) (omega (arith, at_least next (drop (i + 1) digits), read_one digits i value d next h r e))

read_all : (digits : List ℕ) (i value : ℕ) → length digits ≤ i → HasRead digits i value → from 0 digits ≡ value
read_all digits i value h r = r.same ∙ rw (drop_all i digits h) refl

pub read_zero : (digits : List ℕ) (i value : ℕ) → length digits ≤ i → HasRead digits i value → value ≡ 0 → None ≡ width_of_numeral digits
read_zero digits i value h r z = nothing (from 0 digits) (read_all digits i value h r ∙ z)

pub read_width : (digits : List ℕ) (i value : ℕ) → length digits ≤ i → HasRead digits i value → (value ≡ 0 → ⊥) → Some value ≡ width_of_numeral digits
read_width digits i value h r n = let e = read_all digits i value h r in let l = r.small in rw e (a_width value (omega arith) l)

-- ---- greater numbers

-- so many digits were read
pub record HasNumber (digits : List ℕ) (i value : ℕ) : Type 0 where
  pub same : from 0 digits ≡ from value (drop i digits)

number_one : (digits : List ℕ) (i value d : ℕ) → i < length digits → HasNumber digits i value → from 0 digits ≡ from (10 * value + decimal_value (get_or digits i d)) (drop (i + 1) digits)
number_one digits i value d h r = r.same ∙ rw (drop_more digits i d h) refl

pub number_more : (digits : List ℕ) (i value d digit next : ℕ) → i < length digits → HasNumber digits i value → digit ≡ decimal_value (get_or digits i d) → next ≡ 10 * value + digit → HasNumber digits (i + 1) next
number_more digits i value d digit next h r e f = record { same = number_one digits i value d h r ∙ rw (f, e) refl }

too_great : (n : ℕ) → 2 ^ 128 ≤ n → None ≡ (if nat_lt n (2 ^ 128) then Some n else None)
too_great n h = search (rules, tests)

small_enough : (n : ℕ) → n < 2 ^ 128 → Some n ≡ (if nat_lt n (2 ^ 128) then Some n else None)
small_enough n h = search (rules, tests)

pub number_great : (digits : List ℕ) (i value d digit : ℕ) → i < length digits → HasNumber digits i value → digit ≡ decimal_value (get_or digits i d) → 2 ^ 128 ≤ 10 * value + digit → None ≡ number_of digits
number_great digits i value d digit h r e l = too_great (from 0 digits) (omega (arith, at_least (10 * value + decimal_value (get_or digits i d)) (drop (i + 1) digits), number_one digits i value d h r, e, l))

pub number_read : (digits : List ℕ) (i value : ℕ) → length digits ≤ i → HasNumber digits i value → value < 2 ^ 128 → Some value ≡ number_of digits
number_read digits i value h r l = let e : from 0 digits ≡ value = r.same ∙ rw (drop_all i digits h) refl in rw e (small_enough value l)

-- ten times what is above a tenth is too much
pub past_tenth : (m d v : ℕ) → d ≤ m → (m - d) / 10 < v → m + 1 ≤ 10 * v + d
past_tenth m d v k h = omega (arith, h, k, div-add-mod' (m - d) 10, mod_below (m - d) 10 (omega arith))

-- ---- modulo a width

digit_modulo : (n m d : ℕ) → (10 * (n % m) + d) % m ≡ (10 * n + d) % m
digit_modulo n m d = sym (mod-add-mod (10 * (n % m)) m d) ∙ ap (λ x. (x + d) % m) (mul-mod_second 10 n m) ∙ mod-add-mod (10 * n) m d

same_modulo : (a b m : ℕ) (digits : List ℕ) → a % m ≡ b % m → from a digits % m ≡ from b digits % m
same_modulo a b m [] h = h
same_modulo a b m (d ∷ digits) h = same_modulo (10 * a + decimal_value d) (10 * b + decimal_value d) m digits (sym (digit_modulo a m (decimal_value d)) ∙ ap (λ x. (10 * x + decimal_value d) % m) h ∙ digit_modulo b m (decimal_value d))

-- what is left of the digits so far
pub record HasRest (digits : List ℕ) (m i rest : ℕ) : Type 0 where
  pub same : from 0 digits % m ≡ from rest (drop i digits) % m

pub rest_more : (digits : List ℕ) (m i rest d digit next : ℕ) → i < length digits → HasRest digits m i rest → digit ≡ decimal_value (get_or digits i d) → next ≡ (10 * rest + digit) % m → HasRest digits m (i + 1) next
rest_more digits m i rest d digit next h r e f = record { same = r.same ∙ rw (drop_more digits i d h) (same_modulo (10 * rest + decimal_value (get_or digits i d)) next m (drop (i + 1) digits) (rw (f, e) (sym (mod-mod _ m)))) }

pub rest_read : (digits : List ℕ) (m i rest : ℕ) → length digits ≤ i → HasRest digits m i rest → rest < m → rest ≡ from 0 digits % m
rest_read digits m i rest h r l = sym (r.same ∙ rw (drop_all i digits h) (mod-eq_of_lt l))
