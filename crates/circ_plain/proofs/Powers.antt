-- Powers of two: the least one that reaches a number, and numbers moved by places.
use Rattle.std.proofs.Common.{◌≡◌, ℕ, zero, suc, ◌+◌, ◌-◌, ◌*◌, ◌/◌, ◌%◌, ◌^◌, ◌<◌, ◌≤◌, Bool, true, false, inl, inr, refl, sym, ap, ◌∙◌, subst, arith}
use Rattle.std.specs.Prelude.{if◌then◌else◌, nat_le}
use Rattle.std.proofs.lemmas.Bool.{leb-true, leb-false, cases_order}
use Rattle.std.proofs.lemmas.Nat.{pow_pos, mod_below, div-mul-add, shr_split, shr_below}
use Rattle.std.proofs.Math.Pow.{pow-add}
use Rattle.std.proofs.Math.Nat.{pow-suc, mod-eq_of_lt, add-mul-mod_self_right, mul-lt-mul_of_pos_left}
use Rattle.smt_words.proofs.Numbers.{pow_le}
use Rattle.circ_plain.specs.Shifts.{least_power, stages}

-- ---- the least power

below_power : (n : ℕ) → n < 2 ^ n
below_power zero = omega arith
below_power (suc n) = omega (arith, below_power n, pow-suc 2 n)

pub least_power_within : (n k : ℕ) → least_power n k ≤ k
least_power_within n zero = omega arith
least_power_within n (suc k) = go (nat_le n (2 ^ least_power n k)) (least_power_within n k)
  where
    go : (b : Bool) → least_power n k ≤ k → (if b then least_power n k else suc k) ≤ suc k
    go true ih = omega arith
    go false ih = omega arith

reaches : (n k : ℕ) → n ≤ 2 ^ k → n ≤ 2 ^ least_power n k
reaches n zero h = h
reaches n (suc k) h = go (nat_le n (2 ^ least_power n k)) refl
  where
    go : (b : Bool) → nat_le n (2 ^ least_power n k) ≡ b → n ≤ 2 ^ (if b then least_power n k else suc k)
    go true e = leb-true n (2 ^ least_power n k) e
    go false e = h

-- where no power up to k reaches n, the last one was tried
none_reaches : (n k : ℕ) → 2 ^ least_power n k < n → least_power n k ≡ k
none_reaches n zero h = refl
none_reaches n (suc k) h = go (nat_le n (2 ^ least_power n k)) refl h
  where
    go : (b : Bool) → nat_le n (2 ^ least_power n k) ≡ b → 2 ^ (if b then least_power n k else suc k) < n → (if b then least_power n k else suc k) ≡ suc k
    go true e h = let le = leb-true n (2 ^ least_power n k) e in absurd (omega arith)
    go false e h = refl

earlier : (n k j : ℕ) → j < least_power n k → 2 ^ j < n
earlier n zero j h = absurd (omega arith)
earlier n (suc k) j h = go (nat_le n (2 ^ least_power n k)) refl h (earlier n k j)
  where
    go : (b : Bool) → nat_le n (2 ^ least_power n k) ≡ b → j < (if b then least_power n k else suc k) → (j < least_power n k → 2 ^ j < n) → 2 ^ j < n
    go true e h ih = ih h
    go false e h ih =
        let above : 2 ^ least_power n k < n = leb-false n (2 ^ least_power n k) e in
        let last : least_power n k ≡ k = none_reaches n k above in
        let top : 2 ^ k < n = subst (λ m. 2 ^ m < n) last above in
        omega (arith, pow_le j k (omega arith))

pub stages_within : (n : ℕ) → stages n ≤ n
stages_within n = least_power_within n n

pub stages_reach : (n : ℕ) → n ≤ 2 ^ stages n
stages_reach n = reaches n n (omega (arith, below_power n))

pub stages_least : (n j : ℕ) → j < stages n → 2 ^ j < n
stages_least n j h = earlier n n j h

-- ---- numbers moved by places

-- the low places that are left, moved up
pub moved_up : (x n d : ℕ) → d ≤ n → 2 ^ d * (x % 2 ^ (n - d)) ≡ x * 2 ^ d % 2 ^ n
moved_up x n d h =
    let e : n - d + d ≡ n = omega arith in
    let q = x / 2 ^ (n - d) in
    let r = x % 2 ^ (n - d) in
    let p : 2 ^ n ≡ 2 ^ (n - d) * 2 ^ d = ap (λ k. 2 ^ k) (sym e) ∙ pow-add 2 (n - d) d in
    let split : x ≡ r + q * 2 ^ (n - d) = omega (arith, shr_split x (n - d)) in
    let whole : x * 2 ^ d ≡ 2 ^ d * r + q * 2 ^ n = rw p (moved (2 ^ d) (2 ^ (n - d)) q r x split) in
    let small : 2 ^ d * r < 2 ^ n = rw p (room (2 ^ d) (2 ^ (n - d)) r (pow_pos d) (mod_below x (2 ^ (n - d)) (pow_pos (n - d)))) in
    sym (ap (λ k. k % 2 ^ n) whole ∙ add-mul-mod_self_right (2 ^ d * r) q (2 ^ n) ∙ mod-eq_of_lt small)
  where
    moved : (D P q r x : ℕ) → x ≡ r + q * P → x * D ≡ D * r + q * (P * D)
    moved D P q r x e = rw e (omega arith)

    room : (D P r : ℕ) → 0 < D → r < P → D * r < P * D
    room D P r h k = omega (arith, mul-lt-mul_of_pos_left {m = r} {n = P} {k = D} k h)

-- a quotient is as far from its greatest value as that of the number at the other end
other_end : (q r s P Q : ℕ) → P ≡ q + 1 + s → r < Q → P * Q - 1 - (q + P * (Q - 1)) ≡ (P * Q - 1 - (q * Q + r)) / Q
other_end q r s P zero e h = absurd (omega arith)
other_end q r s P (suc k) e h =
    let last : suc k - 1 ≡ k = omega arith in
    let left : P * suc k - 1 - (q + P * k) ≡ s = omega (arith, e) in
    let right : P * suc k - 1 - (q * suc k + r) ≡ s * suc k + (k - r) = rw e (omega arith) in
    rw (last, left, right) (sym (div-mul-add s (suc k) (k - r) (omega arith)))

pub moved_down : (x n d : ℕ) → d ≤ n → x < 2 ^ n → 2 ^ n - 1 - (x / 2 ^ d + 2 ^ (n - d) * (2 ^ d - 1)) ≡ (2 ^ n - 1 - x) / 2 ^ d
moved_down x n d h lt =
    let e : n - d + d ≡ n = omega arith in
    let p : 2 ^ n ≡ 2 ^ (n - d) * 2 ^ d = ap (λ k. 2 ^ k) (sym e) ∙ pow-add 2 (n - d) d in
    let below : x / 2 ^ d < 2 ^ (n - d) = shr_below x (n - d) d (subst (λ k. x < 2 ^ k) (sym e) lt) in
    let split : x ≡ x / 2 ^ d * 2 ^ d + x % 2 ^ d = sym (shr_split x d) in
    let all = other_end (x / 2 ^ d) (x % 2 ^ d) (2 ^ (n - d) - 1 - x / 2 ^ d) (2 ^ (n - d)) (2 ^ d) (omega arith) (mod_below x (2 ^ d) (pow_pos d)) in
    ap (λ k. k - 1 - (x / 2 ^ d + 2 ^ (n - d) * (2 ^ d - 1))) p
    ∙ all
    ∙ ap (λ k. (k - 1 - (x / 2 ^ d * 2 ^ d + x % 2 ^ d)) / 2 ^ d) (sym p)
    ∙ ap (λ k. (2 ^ n - 1 - k) / 2 ^ d) (sym split)

-- only one number of stages reaches the width while no earlier one does
pub stages_only : (n k : ℕ) → ((j : ℕ) → j < k → 2 ^ j < n) → n ≤ 2 ^ k → k ≡ stages n
stages_only n k none reached = elim (cases_order k (stages n)) [
  | inl same ↦ same
  | inr other ↦ elim other [
    | inl less ↦ let below = stages_least n k less in absurd (omega arith)
    | inr more ↦ let below = none (stages n) more in absurd (omega (arith, stages_reach n))
  ]
]
