-- Rows of literals as numbers, the lowest bit first.
use Rattle.std.proofs.Common.{◌≡◌, ℕ, zero, suc, ◌+◌, ◌*◌, ◌/◌, ◌%◌, ◌^◌, ◌<◌, Bool, true, false, not, List, [], ◌∷◌, ◌++◌, length, take, refl, sym, ap, ◌∙◌, arith, drop}
use Rattle.std.specs.Prelude.{map, ◌==◌}
use Rattle.std.proofs.lemmas.Nat.{pow_pos}
use Rattle.std.proofs.Math.Nat.{pow-suc, mod-eq_of_lt, add-mul-mod_self_left, mod-lt, mod-add-div, div-div-eq-div-mul, zero-div}
use Rattle.cnf_base.specs.Literals.{Literal, negated}
use Rattle.cnf_base.specs.Clauses.{lit_true, bit, number}
use Rattle.cnf_base.proofs.Truth.{lit_true-negated}

pub bit_lt : (b : Bool) → bit b < 2
bit_lt true = omega arith
bit_lt false = omega arith

pub half_of : (b : Bool) (n : ℕ) → (bit b + 2 * n) / 2 ≡ n
half_of true n = omega arith
half_of false n = omega arith

pub bit-not : (b : Bool) → bit (not b) + bit b ≡ 1
bit-not true = refl
bit-not false = refl

-- the truth value that the low bit of a number stands for
pub bit-parity : (x : ℕ) → bit (x % 2 == 1) ≡ x % 2
bit-parity x = parity (x % 2) (omega arith)
  where
    parity : (r : ℕ) → r < 2 → bit (r == 1) ≡ r
    parity zero h = refl
    parity (suc zero) h = refl
    parity (suc (suc r)) h = absurd (omega arith)

pub number_lt : (v : ℕ → Bool) (a : List Literal) → number v a < 2 ^ length a
number_lt v [] = omega arith
number_lt v (l ∷ a) = omega (arith, number_lt v a, pow-suc 2 (length a), bit_lt (lit_true v l))

pub number-append : (v : ℕ → Bool) (a b : List Literal) → number v (a ++ b) ≡ number v a + 2 ^ length a * number v b
number-append v [] b = omega arith
number-append v (l ∷ a) b = rw (pow-suc 2 (length a)) (omega (arith, number-append v a b))

-- the opposite of each bit
pub number-negated : (v : ℕ → Bool) (a : List Literal) → number v (map negated a) + number v a + 1 ≡ 2 ^ length a
number-negated v [] = refl
number-negated v (l ∷ a) =
    rw (lit_true-negated v l) (omega (arith, number-negated v a, bit-not (lit_true v l), pow-suc 2 (length a)))

-- the low places of a number that fits them
pub number-take_fits : (v : ℕ → Bool) (n : ℕ) (a : List Literal) → number v a < 2 ^ n → number v (take n a) ≡ number v a
number-take_fits v zero [] h = refl
number-take_fits v zero (l ∷ a) h = omega arith
number-take_fits v (suc n) [] h = refl
number-take_fits v (suc n) (l ∷ a) h = omega (arith, number-take_fits v n a (omega (arith, pow-suc 2 n)))

-- a low bit before a number, modulo twice as much
pub low_mod : (s x k : ℕ) → s < 2 → 0 < k → (s + 2 * x) % (2 * k) ≡ s + 2 * (x % k)
low_mod s x k hs hk =
    let r = mod-lt x {m = k} hk in
    let e : s + 2 * x ≡ (s + 2 * (x % k)) + (2 * k) * (x / k) = omega (arith, mod-add-div x k) in
    ap (λ n. n % (2 * k)) e ∙ add-mul-mod_self_left (s + 2 * (x % k)) (2 * k) (x / k) ∙ mod-eq_of_lt (omega (arith, r))

-- the low places are the number modulo two to their count
pub number-take : (v : ℕ → Bool) (n : ℕ) (a : List Literal) → number v (take n a) ≡ number v a % 2 ^ n
number-take v zero [] = omega arith
number-take v zero (l ∷ a) = omega arith
number-take v (suc n) [] = sym (mod-eq_of_lt (pow_pos (suc n)))
number-take v (suc n) (l ∷ a) =
    ap (λ k. bit (lit_true v l) + 2 * k) (number-take v n a)
    ∙ sym (low_mod (bit (lit_true v l)) (number v a) (2 ^ n) (bit_lt (lit_true v l)) (pow_pos n))
    ∙ ap (λ k. (bit (lit_true v l) + 2 * number v a) % k) (let e : 2 * 2 ^ n ≡ 2 ^ suc n = omega (arith, pow-suc 2 n) in e)

pub number-drop : (v : ℕ → Bool) (n : ℕ) (a : List Literal) → number v (drop n a) ≡ number v a / 2 ^ n
number-drop v zero a = omega arith
number-drop v (suc n) [] = sym (zero-div (2 ^ suc n))
number-drop v (suc n) (l ∷ a) =
    let twice : 2 * 2 ^ n ≡ 2 ^ suc n = omega (arith, pow-suc 2 n) in
    number-drop v n a
    ∙ ap (λ m. m / 2 ^ n) (sym (half_of (lit_true v l) (number v a)))
    ∙ div-div-eq-div-mul (bit (lit_true v l) + 2 * number v a) 2 (2 ^ n)
    ∙ ap (λ m. (bit (lit_true v l) + 2 * number v a) / m) twice
