-- A rotation depends on its index modulo the width.
use Rattle.std.proofs.Common.{◌≡◌, ℕ, ◌+◌, ◌-◌, ◌*◌, ◌/◌, ◌%◌, ◌^◌, ap, sym}
use Rattle.std.proofs.Math.Nat.{mod-mod}
use Rattle.smt_words.specs.Words.{WordValue, word, rotate_left_of, rotate_right_of}
use Rattle.smt_terms.specs.Values.{VWord}

pub left_is : (n i x : ℕ) (r : WordValue) → r ≡ word n (rotate_left_of n (i % n) x) → VWord n (rotate_left_of n i x) ≡ VWord r.width r.value
left_is n i x r e = rw e (ap (λ k. VWord n (x % 2 ^ (n - k) * 2 ^ k + x / 2 ^ (n - k))) (sym (mod-mod i n)))

pub right_is : (n i x : ℕ) (r : WordValue) → r ≡ word n (rotate_right_of n (i % n) x) → VWord n (rotate_right_of n i x) ≡ VWord r.width r.value
right_is n i x r e = rw e (ap (λ k. VWord n (x % 2 ^ k * 2 ^ (n - k) + x / 2 ^ k)) (sym (mod-mod i n)))
