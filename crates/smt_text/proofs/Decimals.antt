-- Digits from the last one on.
use Rattle.std.proofs.Common.{◌≡◌, ℕ, zero, suc, ◌+◌, ◌-◌, ◌*◌, ◌/◌, ◌%◌, ◌^◌, ◌<◌, ◌≤◌, List, [], ◌∷◌, ◌++◌, length, drop, take, refl, sym, ap, ◌∙◌, arith, append_assoc}
use Rattle.std.specs.Prelude.{slice_set}
use Rattle.std.proofs.lemmas.Fmt.{decimal_digit, decimal_step_wide}
use Rattle.std.proofs.Math.Nat.{pow-succ'}
use Rattle.std.proofs.lemmas.List.{drop-set, length-drop, length-set, take_all}
use Rattle.std.specs.Fmt.{decimal}

-- one digit less fits in one place less
pub fewer_digits : (n at : ℕ) → n < 10 ^ at → 10 ≤ n → (1 < at) × (n / 10 < 10 ^ (at - 1))
fewer_digits n zero h low = let one : 10 ^ 0 ≡ 1 = refl in absurd (omega (arith, h, low, one))
fewer_digits n (suc zero) h low = let ten : 10 ^ 1 ≡ 10 = refl in absurd (omega (arith, h, low, ten))
fewer_digits n (suc (suc k)) h low =
    let power = pow-succ' 10 (suc k) in
    let same : suc (suc k) - 1 ≡ suc k = omega arith in
    (omega arith, rw same (omega (arith, h, power)))

-- a digit is put before those that stand
put_before : (digits : List ℕ) (at d : ℕ) → 0 < at → at ≤ length digits → drop (at - 1) (slice_set digits (at - 1) d) ≡ d ∷ drop at digits
put_before digits at d low high =
    let same : at - 1 + 1 ≡ at = omega (arith, low) in
    drop-set digits (at - 1) d (omega (arith, low, high)) ∙ ap (λ k. d ∷ drop k digits) same

-- the last digit of the rest is put before those that stand
pub digit_before : (n rest : ℕ) (digits : List ℕ) (at : ℕ) → 10 ≤ rest → rest < 10 ^ 64 → 0 < at → at ≤ length digits → decimal n ≡ decimal rest ++ drop at digits
    → decimal n ≡ decimal (rest / 10) ++ drop (at - 1) (slice_set digits (at - 1) (48 + rest % 10))
digit_before n rest digits at low high above within e =
    e
    ∙ ap (λ ds. ds ++ drop at digits) (decimal_step_wide rest low high)
    ∙ append_assoc (decimal (rest / 10)) ((48 + rest % 10) ∷ []) (drop at digits)
    ∙ ap (λ ds. decimal (rest / 10) ++ ds) (sym (put_before digits at (48 + rest % 10) above within))

-- the first digit is put before all others
pub first_before : (n rest : ℕ) (digits out new : List ℕ) (at size : ℕ) → length digits ≡ size → rest < 10 → 0 < at → at ≤ length digits → decimal n ≡ decimal rest ++ drop at digits
    → new ≡ out ++ take (size - (at - 1)) (drop (at - 1) (slice_set digits (at - 1) (48 + rest))) → new ≡ out ++ decimal n
first_before n rest digits out new at size is small above within e f =
    let written = slice_set digits (at - 1) (48 + rest) in
    let left = length-drop (at - 1) written in
    let same = length-set digits (at - 1) (48 + rest) in
    let whole = take_all (size - (at - 1)) (drop (at - 1) written) (omega (arith, left, same, is)) in
    f ∙ ap (λ ds. out ++ ds) whole ∙ ap (λ ds. out ++ ds) (put_before digits at (48 + rest) above within ∙ sym (e ∙ ap (λ ds. ds ++ drop at digits) (decimal_digit rest small)))

-- a last digit
pub last_digit : (out mid new : List ℕ) (n : ℕ) → 10 ≤ n → n < 10 ^ 64 → mid ≡ out ++ decimal (n / 10) → new ≡ mid ++ (48 + n % 10) ∷ [] → new ≡ out ++ decimal n
last_digit out mid new n low high e f = f ∙ rw (e, decimal_step_wide n low high) (append_assoc out (decimal (n / 10)) ((48 + n % 10) ∷ []))
