-- The signed quotient, remainder and modulus are those of the numbers.
use Rattle.std.proofs.Common.{◌≡◌, ℕ, zero, suc, ◌+◌, ◌-◌, ◌*◌, ◌%◌, ◌^◌, ◌<◌, Bool, true, false, not, ◌&&◌, List, ◌∷◌, ◌++◌, length, refl, sym, ap, ◌∙◌, subst, arith}
use Rattle.std.specs.Prelude.{if◌then◌else◌, ◌==◌, replicate}
use Rattle.std.proofs.lemmas.Bool.{ne_eqb}
use Rattle.std.proofs.lemmas.List.{length-replicate}
use Rattle.std.proofs.lemmas.Nat.{pow_pos}
use Rattle.std.proofs.Math.Nat.{mod-lt, mod_self, zero-mod, mod-eq_of_lt}
use Rattle.cnf_base.specs.Literals.{Literal, positive_of, negated, true_literal, false_literal}
use Rattle.cnf_base.specs.declared.gate.GateKind.TheVariants.{And, Xor}
use Rattle.cnf_base.specs.Clauses.{lit_true, number, bit}
use Rattle.cnf_base.specs.Gates.{HaveMeaning}
use Rattle.cnf_base.proofs.Truth.{lit_true-negated}
use Rattle.smt_words.specs.Words.{neg_of, is_negative, abs_of, udiv_of, urem_of, add_of, sdiv_of, srem_of, smod_of}
use Rattle.cnf_base.specs.Choices.{mux_gates, equal_gates, equal_bit}
use Rattle.circ_muldiv.specs.Products.{sum_gates}
use Rattle.circ_muldiv.specs.Quotients.{divide_gates}
use Rattle.circ_muldiv.specs.Signed.{Magnitudes, magnitudes, sdiv_gates, sdiv_bits, srem_gates, srem_bits, smod_gates, smod_bits}
use Rattle.cnf_base.proofs.Numbers.{number_lt}
use Rattle.cnf_base.proofs.Equating.{equal_number}
use Rattle.circ_plain.specs.Signs.{sign_of, neg_gates, neg_bits, signed_gates, signed_bits, abs_gates}
use Rattle.circ_plain.proofs.Bits.{meaning_front, meaning_back, false_is_false, number-replicate_false, choice_number}
use Rattle.circ_plain.proofs.Negating.{sign_is, neg_number, length-neg_bits, signed_number, abs_number, length-signed_bits}
use Rattle.circ_muldiv.proofs.Multiplying.{sum_number}
use Rattle.circ_muldiv.proofs.Dividing.{length-quotient, length-remainder, divide_correct}
use Rattle.std.proofs.Math.Bool.{and-true, and-false}

-- ---- the quotient and the remainder of the absolute values

pub record AreMagnitudes (v : ℕ → Bool) (a b : List Literal) (m : Magnitudes) : Type 0 where
  pub quotient : number v m.quotient ≡ udiv_of (length a) (abs_of (length a) (number v a)) (abs_of (length a) (number v b))
  pub remainder : number v m.remainder ≡ urem_of (length a) (abs_of (length a) (number v a)) (abs_of (length a) (number v b))
  pub places : length m.quotient ≡ length a
  pub rest_places : length m.remainder ≡ length a

pub magnitudes_correct : (v : ℕ → Bool) (g : ℕ) (a b : List Literal) → v 1 ≡ true → 0 < length a → length a ≡ length b → HaveMeaning v g (magnitudes g a b).gates → AreMagnitudes v a b (magnitudes g a b)
magnitudes_correct v g a b one pos e m =
    let ga = abs_gates g a in
    let h = g + length ga in
    let gb = abs_gates h b in
    let k = h + length gb in
    let x = signed_bits g a in
    let y = signed_bits h b in
    let later = meaning_back v g ga (gb ++ divide_gates k x y) m in
    let ax = abs_number v g a one pos (meaning_front v g ga (gb ++ divide_gates k x y) m) in
    let ay = abs_number v h b one (omega (arith, e)) (meaning_front v h gb (divide_gates k x y) later) ∙ ap (λ n. abs_of n (number v b)) (sym e) in
    let lx = length-signed_bits g a in
    let ly = length-signed_bits h b in
    let d = divide_correct v k x y one (lx ∙ e ∙ sym ly) (meaning_back v h gb (divide_gates k x y) later) in
    record {
      quotient = d.0 ∙ ap (λ n. udiv_of n (number v x) (number v y)) lx ∙ rw (ax, ay) refl;
      remainder = d.1 ∙ ap (λ n. urem_of n (number v x) (number v y)) lx ∙ rw (ax, ay) refl;
      places = length-quotient k x y ∙ lx;
      rest_places = length-remainder k x y ∙ ly ∙ sym e;
    }

-- ---- the signed operators

sdiv_cases : (n q : ℕ) (s t : Bool) → (if (if s then not t else t) then neg_of n q else q) ≡ (if s then (if t then q else neg_of n q) else (if t then neg_of n q else q))
sdiv_cases n q true true = refl
sdiv_cases n q true false = refl
sdiv_cases n q false true = refl
sdiv_cases n q false false = refl

pub sdiv_correct : (v : ℕ → Bool) (g : ℕ) (a b : List Literal) → v 1 ≡ true → 0 < length a → length a ≡ length b → HaveMeaning v g (sdiv_gates g a b) → number v (sdiv_bits g a b) ≡ sdiv_of (length a) (number v a) (number v b)
sdiv_correct v g a b one pos e meaning =
    let m = magnitudes g a b in
    let h = g + length m.gates in
    let q = m.quotient in
    let n = neg_bits h q in
    let x = h + length (neg_gates h q) in
    let choice = mux_gates (positive_of x) n q in
    let last = neg_gates h q ++ Xor (sign_of a) (sign_of b) ∷ choice in
    let all = magnitudes_correct v g a b one pos e (meaning_front v g m.gates last meaning) in
    let later = meaning_back v g m.gates last meaning in
    let negation = neg_number v h q one (meaning_front v h (neg_gates h q) (Xor (sign_of a) (sign_of b) ∷ choice) later) in
    let signs = meaning_back v h (neg_gates h q) (Xor (sign_of a) (sign_of b) ∷ choice) later in
    let t = sign_is v b (omega (arith, e)) ∙ ap (λ k. is_negative k (number v b)) (sym e) in
    choice_number v (suc x) (positive_of x) n q (length-neg_bits h q) signs.1
    ∙ rw (signs.0, negation, all.places, sign_is v a pos, t, all.quotient) (sdiv_cases (length a) _ (is_negative (length a) (number v a)) (is_negative (length a) (number v b)))

pub srem_correct : (v : ℕ → Bool) (g : ℕ) (a b : List Literal) → v 1 ≡ true → 0 < length a → length a ≡ length b → HaveMeaning v g (srem_gates g a b) → number v (srem_bits g a b) ≡ srem_of (length a) (number v a) (number v b)
srem_correct v g a b one pos e meaning =
    let m = magnitudes g a b in
    let h = g + length m.gates in
    let r = m.remainder in
    let all = magnitudes_correct v g a b one pos e (meaning_front v g m.gates (signed_gates h (sign_of a) r) meaning) in
    signed_number v h (sign_of a) r one (meaning_back v g m.gates (signed_gates h (sign_of a) r) meaning)
    ∙ rw (all.rest_places, sign_is v a pos, all.remainder) refl

-- u is the remainder of the absolute values, w the same with the dividend's sign, y whether the divisor comes to it
smod_cases : (n u w t r : ℕ) (p q z y : Bool) → u < 2 ^ n → w ≡ (if p then neg_of n u else u) → z ≡ (u == 0) → y ≡ ((if p then not q else q) && not z) → r ≡ (w + t * bit y) % 2 ^ n → r ≡ (if u == 0 then u else if p then (if q then neg_of n u else add_of n (neg_of n u) t) else (if q then add_of n u t else u))
smod_cases n zero w t r p q z y lt ew ez ey er = er ∙ ap (λ k. k % 2 ^ n) (nothing p ew) ∙ zero-mod (2 ^ n)
  where
    none : y ≡ false
    none = ey ∙ ap (λ b. (if p then not q else q) && not b) ez ∙ and-false (if p then not q else q)

    nothing : (p : Bool) → w ≡ (if p then neg_of n 0 else 0) → w + t * bit y ≡ 0
    nothing true e = let f : 2 ^ n - 0 ≡ 2 ^ n = omega arith in rw none (omega (arith, e, ap (λ k. k % 2 ^ n) f ∙ mod_self (2 ^ n)))
    nothing false e = rw none (omega (arith, e))
smod_cases n (suc u) w t r p q z y lt ew ez ey er = rw other (cases p q ew ey')
  where
    other : (suc u == 0) ≡ false
    other = ne_eqb (suc u) 0 (let e : suc u ≡ 0 → ⊥ = omega arith in e)

    ey' : y ≡ (if p then not q else q)
    ey' = ey ∙ ap (λ b. (if p then not q else q) && not b) (ez ∙ other) ∙ and-true (if p then not q else q)

    here : (k : ℕ) (b : Bool) → w ≡ k → y ≡ b → r ≡ (k + t * bit b) % 2 ^ n
    here k b e f = er ∙ rw (e, f) refl

    low : (k : ℕ) → k < 2 ^ n → (k + t * 0) % 2 ^ n ≡ k
    low k h = ap (λ i. i % 2 ^ n) (let e : k + t * 0 ≡ k = omega arith in e) ∙ mod-eq_of_lt h

    whole : (k : ℕ) → (k + t * 1) % 2 ^ n ≡ add_of n k t
    whole k = ap (λ i. i % 2 ^ n) (let e : k + t * 1 ≡ k + t = omega arith in e)

    cases : (p q : Bool) → w ≡ (if p then neg_of n (suc u) else suc u) → y ≡ (if p then not q else q) → r ≡ (if p then (if q then neg_of n (suc u) else add_of n (neg_of n (suc u)) t) else (if q then add_of n (suc u) t else suc u))
    cases true true e f = here _ false e f ∙ low _ (mod-lt (2 ^ n - suc u) {m = 2 ^ n} (pow_pos n))
    cases true false e f = here _ true e f ∙ whole _
    cases false true e f = here _ true e f ∙ whole _
    cases false false e f = here _ false e f ∙ low _ lt

pub smod_correct : (v : ℕ → Bool) (g : ℕ) (a b : List Literal) → v 1 ≡ true → 0 < length a → length a ≡ length b → HaveMeaning v g (smod_gates g a b) → number v (smod_bits g a b) ≡ smod_of (length a) (number v a) (number v b)
smod_correct v g a b one pos e meaning =
    let n = length a in
    let s = sign_of a in
    let t = sign_of b in
    let m = magnitudes g a b in
    let u = m.remainder in
    let h = g + length m.gates in
    let w = signed_bits h u in
    let ws = signed_gates h s u in
    let x = h + length ws in
    let zs = equal_gates (suc x) true_literal u (replicate (length u) false_literal) in
    let z = equal_bit (suc x) true_literal u (replicate (length u) false_literal) in
    let y = suc x + length zs in
    let sum = sum_gates (suc y) w b (positive_of y) in
    let after_zero = And (positive_of x) (negated z) ∷ sum in
    let after_signed = Xor s t ∷ (zs ++ after_zero) in
    let all = magnitudes_correct v g a b one pos e (meaning_front v g m.gates (ws ++ after_signed) meaning) in
    let after = meaning_back v g m.gates (ws ++ after_signed) meaning in
    let signed = signed_number v h s u one (meaning_front v h ws after_signed after) in
    let signs = meaning_back v h ws after_signed after in
    let compare = equal_number v (suc x) true_literal u (replicate (length u) false_literal) (sym (length-replicate (length u) false_literal)) (meaning_front v (suc x) zs after_zero signs.1) in
    let and_sum = meaning_back v (suc x) zs after_zero signs.1 in
    let lw = length-signed_bits h u in
    let total = sum_number v (suc y) w b (positive_of y) one (lw ∙ all.rest_places ∙ e) and_sum.1 in
    let es = sign_is v a pos in
    let et = sign_is v b (omega (arith, e)) ∙ ap (λ k. is_negative k (number v b)) (sym e) in
    let ez : lit_true v z ≡ (number v u == 0) = compare ∙ rw (one, number-replicate_false v (length u) false_literal (false_is_false v one)) refl in
    let ey : v y ≡ ((if is_negative n (number v a) then not (is_negative n (number v b)) else is_negative n (number v b)) && not (lit_true v z)) =
    and_sum.0 ∙ rw (signs.0, es, et, lit_true-negated v z) refl in
    let ew : number v w ≡ (if is_negative n (number v a) then neg_of n (number v u) else number v u) = signed ∙ rw (es, all.rest_places) refl in
    let fits : number v u < 2 ^ n = subst (λ k. number v u < 2 ^ k) all.rest_places (number_lt v u) in
    let er : number v (smod_bits g a b) ≡ (number v w + number v b * bit (v y)) % 2 ^ n = total ∙ ap (λ k. (number v w + number v b * bit (v y)) % 2 ^ k) (lw ∙ all.rest_places) in
    smod_cases n (number v u) (number v w) (number v b) (number v (smod_bits g a b)) (is_negative n (number v a)) (is_negative n (number v b)) (lit_true v z) (v y) fits ew ez ey er
    ∙ rw all.remainder refl
