-- The bits of a negation, of one chosen by a literal and of an absolute value are those of the numbers.
use Rattle.std.proofs.Common.{◌≡◌, ℕ, suc, ◌+◌, ◌-◌, ◌*◌, ◌%◌, ◌^◌, ◌<◌, Bool, true, false, List, [], ◌∷◌, length, length-append, length-take, min, take, get_or, refl, sym, ap, ◌∙◌, subst, arith}
use Rattle.std.specs.Prelude.{if◌then◌else◌, map, replicate, nat_le}
use Rattle.std.proofs.lemmas.Bool.{le-leb, lt-leb}
use Rattle.std.proofs.lemmas.List.{length-map, length-replicate}
use Rattle.std.proofs.Math.Nat.{pow-suc, mod-eq_of_lt, add-mul-mod_self_left}
use Rattle.cnf_base.specs.Literals.{Literal, negated, true_literal, false_literal}
use Rattle.cnf_base.specs.Clauses.{lit_true, number, bit}
use Rattle.cnf_base.specs.Gates.{HaveMeaning}
use Rattle.cnf_base.specs.Adders.{add_carry}
use Rattle.cnf_base.specs.Assignments.{fresh_bits}
use Rattle.cnf_base.specs.Choices.{mux_gates}
use Rattle.cnf_base.specs.Circuits.{CircuitValue, Gains}
use Rattle.cnf_base.proofs.Growing.{Gains-then}
use Rattle.cnf_base.proofs.Adding.{add_number, length-add_gates, length-add_bits}
use Rattle.smt_words.specs.Words.{is_negative, neg_of, abs_of}
use Rattle.cnf_base.proofs.Numbers.{number_lt, number-negated}
use Rattle.cnf_base.proofs.Rows.{length-fresh_bits}
use Rattle.cnf_base.proofs.Choosing.{length-mux_gates}
use Rattle.circ_plain.specs.Signs.{sign_of, neg_gates, neg_bits, signed_gates, signed_bits, abs_gates}
use Rattle.circ_plain.proofs.Bits.{meaning_front, meaning_back, false_is_false, number-replicate_false, choice_number}

-- ---- the sign

-- a row of bits is what stands below its sign, and the sign
pub sign_splits : (v : ℕ → Bool) (a : List Literal) → 0 < length a → number v a ≡ number v (take (length a - 1) a) + 2 ^ (length a - 1) * bit (lit_true v (sign_of a))
sign_splits v [] h = absurd (omega arith)
sign_splits v (l ∷ []) h = omega arith
sign_splits v (l ∷ m ∷ a) h =
    let ih = sign_splits v (m ∷ a) (omega arith) in
    let n : length (l ∷ m ∷ a) - 1 ≡ suc (length a) = omega arith in
    let k : length (m ∷ a) - 1 ≡ length a = omega arith in
    let ih' : number v (m ∷ a) ≡ number v (take (length a) (m ∷ a)) + 2 ^ length a * bit (lit_true v (sign_of (m ∷ a))) = subst (λ j. number v (m ∷ a) ≡ number v (take j (m ∷ a)) + 2 ^ j * bit (lit_true v (sign_of (m ∷ a)))) k ih in
    rw (n, pow-suc 2 (length a)) (omega (arith, ih'))

-- what stands below the sign
pub below_sign : (v : ℕ → Bool) (a : List Literal) → 0 < length a → number v (take (length a - 1) a) < 2 ^ (length a - 1)
below_sign v a h =
    let e : min (length a - 1) (length a) ≡ length a - 1 = omega arith in
    subst (λ k. number v (take (length a - 1) a) < 2 ^ k) (length-take (length a - 1) a ∙ e) (number_lt v (take (length a - 1) a))

sign_test : (x p f : ℕ) (s : Bool) → f < p → x ≡ f + p * bit s → s ≡ nat_le p x
sign_test x p f true h e = sym (le-leb p x (omega arith))
sign_test x p f false h e = sym (lt-leb p x (omega arith))

pub sign_is : (v : ℕ → Bool) (a : List Literal) → 0 < length a → lit_true v (sign_of a) ≡ is_negative (length a) (number v a)
sign_is v a h = sign_test (number v a) (2 ^ (length a - 1)) (number v (take (length a - 1) a)) (lit_true v (sign_of a)) (below_sign v a h) (sign_splits v a h)

-- ---- negation

pub sum_mod : (s p c t : ℕ) → s < p → s + p * c ≡ t → s ≡ t % p
sum_mod s p c t lt e = sym (ap (λ n. n % p) (sym e) ∙ add-mul-mod_self_left s p c ∙ mod-eq_of_lt lt)

pub length-neg_bits : (g : ℕ) (a : List Literal) → length (neg_bits g a) ≡ length a
length-neg_bits g a =
    length-add_bits g (map negated a) (replicate (length a) false_literal) (length-map a negated ∙ sym (length-replicate (length a) false_literal))
    ∙ length-map a negated

pub length-neg_gates : (g : ℕ) (a : List Literal) → length (neg_gates g a) ≡ 3 * length a
length-neg_gates g a =
    length-add_gates g (map negated a) (replicate (length a) false_literal) true_literal (length-map a negated ∙ sym (length-replicate (length a) false_literal))
    ∙ ap (λ n. 3 * n) (length-map a negated)

pub neg_number : (v : ℕ → Bool) (g : ℕ) (a : List Literal) → v 1 ≡ true → HaveMeaning v g (neg_gates g a) → number v (neg_bits g a) ≡ neg_of (length a) (number v a)
neg_number v g a one h =
    let n = length a in
    let zeros = replicate n false_literal in
    let same : length (map negated a) ≡ length zeros = length-map a negated ∙ sym (length-replicate n false_literal) in
    let sum = add_number v g (map negated a) zeros true_literal same h in
    let sum' : number v (neg_bits g a) + 2 ^ n * bit (lit_true v (add_carry g (map negated a) zeros true_literal)) ≡ number v (map negated a) + number v zeros + bit (lit_true v true_literal) = subst (λ k. number v (neg_bits g a) + 2 ^ k * bit (lit_true v (add_carry g (map negated a) zeros true_literal)) ≡ number v (map negated a) + number v zeros + bit (lit_true v true_literal)) (length-map a negated) sum in
    let t : bit (lit_true v true_literal) ≡ 1 = ap bit one in
    let z = number-replicate_false v n false_literal (false_is_false v one) in
    let lt : number v (neg_bits g a) < 2 ^ n = subst (λ k. number v (neg_bits g a) < 2 ^ k) (length-neg_bits g a) (number_lt v (neg_bits g a)) in
    sum_mod (number v (neg_bits g a)) (2 ^ n) (bit (lit_true v (add_carry g (map negated a) zeros true_literal))) (2 ^ n - number v a) lt
    (omega (arith, sum', t, z, number-negated v a))

-- ---- a negation where a literal is true

pub length-signed_gates : (g : ℕ) (c : Literal) (a : List Literal) → length (signed_gates g c a) ≡ 4 * length a
length-signed_gates g c a =
    length-append (neg_gates g a) (mux_gates c (neg_bits g a) a)
    ∙ omega (arith, length-neg_gates g a, length-mux_gates c (neg_bits g a) a (length-neg_bits g a), length-neg_bits g a)

pub length-signed_bits : (g : ℕ) (a : List Literal) → length (signed_bits g a) ≡ length a
length-signed_bits g a = length-fresh_bits (length a) (g + length (neg_gates g a))

pub signed_number : (v : ℕ → Bool) (g : ℕ) (c : Literal) (a : List Literal) → v 1 ≡ true → HaveMeaning v g (signed_gates g c a) → number v (signed_bits g a) ≡ (if lit_true v c then neg_of (length a) (number v a) else number v a)
signed_number v g c a one h =
    let front = meaning_front v g (neg_gates g a) _ h in
    let back = meaning_back v g (neg_gates g a) _ h in
    choice_number v (g + length (neg_gates g a)) c (neg_bits g a) a (length-neg_bits g a) back
    ∙ ap (λ k. if lit_true v c then k else number v a) (neg_number v g a one front)

-- ---- absolute value

pub length-abs_gates : (g : ℕ) (a : List Literal) → length (abs_gates g a) ≡ 4 * length a
length-abs_gates g a = length-signed_gates g (sign_of a) a

pub abs_number : (v : ℕ → Bool) (g : ℕ) (a : List Literal) → v 1 ≡ true → 0 < length a → HaveMeaning v g (abs_gates g a) → number v (signed_bits g a) ≡ abs_of (length a) (number v a)
abs_number v g a one some h = signed_number v g (sign_of a) a one h ∙ rw (sign_is v a some) refl

-- the sign is the bit at the last place
pub sign_at : (a : List Literal) (x : Literal) → 0 < length a → x ≡ get_or a (length a - 1) x → x ≡ sign_of a
sign_at [] x h e = absurd (omega arith)
sign_at (l ∷ []) x h e = e
sign_at (l ∷ m ∷ a) x h e =
    let n : length (l ∷ m ∷ a) - 1 ≡ suc (length a) = omega arith in
    let k : length (m ∷ a) - 1 ≡ length a = omega arith in
    sign_at (m ∷ a) x (omega arith) (e ∙ ap (λ j. get_or (l ∷ m ∷ a) j x) n ∙ ap (λ j. get_or (m ∷ a) j x) (sym k))

-- ---- one circuit after the other

-- a negation, and the choice between it and the bits
pub signed_joined : (s p q : CircuitValue) (c : Literal) (a turned : List Literal) → Gains s p (neg_gates s.next a) → turned ≡ neg_bits s.next a → Gains p q (mux_gates c turned a) → Gains s q (signed_gates s.next c a)
signed_joined s p q c a turned first et second =
    Gains-then s p q (neg_gates s.next a) (mux_gates c (neg_bits s.next a) a) first (rw et at second)

pub signed_bits_are : (s p : CircuitValue) (a turned bits : List Literal) → Gains s p (neg_gates s.next a) → turned ≡ neg_bits s.next a → bits ≡ fresh_bits p.next (length turned) → bits ≡ signed_bits s.next a
signed_bits_are s p a turned bits first et eb =
    eb ∙ ap (λ n. fresh_bits p.next n) (ap length et ∙ length-neg_bits s.next a) ∙ ap (λ n. fresh_bits n (length a)) first.next
