-- The quotient and the remainder are those of the numbers.
use Rattle.std.proofs.Common.{◌≡◌, ℕ, zero, suc, ◌+◌, ◌*◌, ◌/◌, ◌%◌, ◌^◌, ◌<◌, ◌≤◌, Bool, true, false, List, [], ◌∷◌, length, map, refl, sym, ap, ◌∙◌, subst, arith, length-append}
use Rattle.std.specs.Prelude.{if◌then◌else◌}
use Rattle.std.proofs.lemmas.Bool.{ne_eqb}
use Rattle.std.proofs.lemmas.List.{length-map, length-take-le, length-replicate}
use Rattle.std.proofs.lemmas.Nat.{div-mul-add, mod-mul-add}
use Rattle.std.proofs.Math.Nat.{pow-suc}
use Rattle.std.proofs.Math.Pow.{pow_mono}
use Rattle.cnf_base.specs.Literals.{Literal, negated, true_literal, false_literal}
use Rattle.cnf_base.specs.Clauses.{lit_true, number, bit}
use Rattle.cnf_base.specs.Gates.{HaveMeaning}
use Rattle.cnf_base.specs.Adders.{add_bits}
use Rattle.cnf_base.proofs.Adding.{add_number, length-add_bits}
use Rattle.smt_words.specs.Words.{udiv_of, urem_of}
use Rattle.cnf_base.specs.Assignments.{fresh_bits}
use Rattle.cnf_base.specs.Choices.{mux_gates}
use Rattle.circ_muldiv.specs.Quotients.{shifted, complement_of, difference_gates, place_gates, place_bit, place_rest, divided, divide_gates, quotient_bits, remainder_bits}
use Rattle.cnf_base.proofs.Numbers.{bit_lt, number_lt, number-append, number-negated, number-take_fits}
use Rattle.cnf_base.proofs.Rows.{length-fresh_bits}
use Rattle.cnf_base.proofs.Choosing.{mux_number}
use Rattle.circ_plain.proofs.Bits.{meaning_front, meaning_back, false_is_false, number-replicate_false}

-- ---- lengths

pub length-complement : (b : List Literal) → length (complement_of b) ≡ suc (length b)
length-complement b = length-append (map negated b) (true_literal ∷ []) ∙ ap (λ k. k + 1) (length-map b negated) ∙ (let e : length b + 1 ≡ suc (length b) = omega arith in e)

pub length-shifted : (a : Literal) (r b : List Literal) → length r ≡ suc (length b) → length (shifted a r b) ≡ suc (length b)
length-shifted a r b e = ap suc (length-take-le (length b) r (omega arith))

pub length-divided_rest : (g : ℕ) (a b : List Literal) → length (divided g a b).rest ≡ suc (length b)
length-divided_rest g [] b = length-replicate (length b + 1) false_literal ∙ (let e : length b + 1 ≡ suc (length b) = omega arith in e)
length-divided_rest g (a ∷ as') b =
    let d = divided g as' b in
    length-fresh_bits (length b + 1) (g + length d.gates + length (difference_gates (g + length d.gates) a d.rest b)) ∙ (let e : length b + 1 ≡ suc (length b) = omega arith in e)

pub length-quotient : (g : ℕ) (a b : List Literal) → length (quotient_bits g a b) ≡ length a
length-quotient g [] b = refl
length-quotient g (a ∷ as') b = ap suc (length-quotient g as' b)

pub length-remainder : (g : ℕ) (a b : List Literal) → length (remainder_bits g a b) ≡ length b
length-remainder g a b = length-take-le (length b) (divided g a b).rest (omega (arith, length-divided_rest g a b))

-- ---- one place

-- the divisor's complement is two to its length and one more place, less one and less the divisor
complement_number : (v : ℕ → Bool) (b : List Literal) → v 1 ≡ true → number v (complement_of b) + number v b + 1 ≡ 2 * 2 ^ length b
complement_number v b one =
    let e = number-append v (map negated b) (true_literal ∷ []) in
    let t : number v (true_literal ∷ []) ≡ 1 = ap (λ p. bit p + 2 * 0) one in
    let l = length-map b negated in
    rw (e, t, l) (omega (arith, number-negated v b))

-- x is the remainder with the next place; what one place gives: the carry c says whether the divisor goes into x
pub record IsPlace (v : ℕ → Bool) (b : List Literal) (x : ℕ) (c : Literal) (rest : List Literal) : Type 0 where
  pub divides : 0 < number v b → x < 2 * number v b → (x ≡ bit (lit_true v c) * number v b + number v rest) × (number v rest < number v b)
  pub by_zero : number v b ≡ 0 → (lit_true v c ≡ true) × (number v rest ≡ x)

place_cases : (n d x b : ℕ) (p : Bool) → d < 2 * n → b < n → d + (2 * n) * bit p + b ≡ x + 2 * n → x < 2 * b → (x ≡ bit p * b + (if p then d else x)) × ((if p then d else x) < b)
place_cases n d x b true hd hb e hx = (omega arith, omega arith)
place_cases n d x b false hd hb e hx = (omega arith, omega arith)

place_by_zero : (n d x b : ℕ) (p : Bool) → d < 2 * n → d + (2 * n) * bit p + b ≡ x + 2 * n → b ≡ 0 → (p ≡ true) × ((if p then d else x) ≡ x)
place_by_zero n d x b true hd e z = (refl, omega arith)
place_by_zero n d x b false hd e z = absurd (omega arith)

pub place_number : (v : ℕ → Bool) (g : ℕ) (a : Literal) (r b : List Literal) → v 1 ≡ true → length r ≡ suc (length b) → number v r < 2 ^ length b → HaveMeaning v g (place_gates g a r b) → IsPlace v b (bit (lit_true v a) + 2 * number v r) (place_bit g a r b) (place_rest g a r b)
place_number v g a r b one len lt h =
    let n = length b in
    let x = shifted a r b in
    let o = complement_of b in
    let ks = difference_gates g a r b in
    let c = place_bit g a r b in
    let d = add_bits g x o in
    let lx : length x ≡ suc n = length-shifted a r b len in
    let same : length x ≡ length o = lx ∙ sym (length-complement b) in
    let ld : length d ≡ suc n = length-add_bits g x o same ∙ lx in
    let front = meaning_front v g ks (mux_gates c d x) h in
    let back = meaning_back v g ks (mux_gates c d x) h in
    let sum = add_number v g x o true_literal same front in
    let t : bit (lit_true v true_literal) ≡ 1 = ap bit one in
    let p : 2 ^ length x ≡ 2 * 2 ^ n = ap (λ k. 2 ^ k) lx ∙ pow-suc 2 n ∙ omega arith in
    let dl : number v d < 2 * 2 ^ n = subst (λ k. number v d < k) (ap (λ k. 2 ^ k) ld ∙ pow-suc 2 n ∙ omega arith) (number_lt v d) in
    let xs : number v x ≡ bit (lit_true v a) + 2 * number v r = ap (λ k. bit (lit_true v a) + 2 * k) (number-take_fits v n r lt) in
    let more : suc n ≡ n + 1 = omega arith in
    let choice = subst (λ k. number v (fresh_bits (g + length ks) k) ≡ (if lit_true v c then number v d else number v x)) (ld ∙ more) (mux_number v (g + length ks) c d x (ld ∙ sym lx) back) in
    let sum' : number v d + (2 * 2 ^ n) * bit (lit_true v c) ≡ number v x + number v o + 1 = subst (λ k. number v d + k * bit (lit_true v c) ≡ number v x + number v o + 1) p (sum ∙ ap (λ k. number v x + number v o + k) t) in
    let whole : number v d + (2 * 2 ^ n) * bit (lit_true v c) + number v b ≡ number v x + 2 * 2 ^ n = omega (arith, sum', complement_number v b one) in
    let cases = place_cases (2 ^ n) (number v d) (number v x) (number v b) (lit_true v c) dl (number_lt v b) whole in
    let zeros = place_by_zero (2 ^ n) (number v d) (number v x) (number v b) (lit_true v c) dl whole in
    record {
      divides =
          λ pos below. let q = cases (omega (arith, xs, below)) in
          (sym xs ∙ q.0 ∙ ap (λ k. bit (lit_true v c) * number v b + k) (sym choice), subst (λ k. k < number v b) (sym choice) q.1);
      by_zero = λ z. let q = zeros z in (q.0, choice ∙ q.1 ∙ xs);
    }

-- ---- all places

one_more : (a n q b r c s : ℕ) → n ≡ q * b + r → a + 2 * r ≡ c * b + s → a + 2 * n ≡ (c + 2 * q) * b + s
one_more a n q b r c s e f = omega (arith, e, f)

-- by a divisor that is not 0
pub divided_number : (v : ℕ → Bool) (g : ℕ) (a b : List Literal) → v 1 ≡ true → 0 < number v b → HaveMeaning v g (divide_gates g a b) → (number v a ≡ number v (quotient_bits g a b) * number v b + number v (divided g a b).rest) × (number v (divided g a b).rest < number v b)
divided_number v g [] b one pos h =
    let z = number-replicate_false v (length b + 1) false_literal (false_is_false v one) in
    (omega (arith, z), omega (arith, z))
divided_number v g (a ∷ as') b one pos h =
    let d = divided g as' b in
    let k = g + length d.gates in
    let ih = divided_number v g as' b one pos (meaning_front v g d.gates (place_gates k a d.rest b) h) in
    let place = place_number v k a d.rest b one (length-divided_rest g as' b) (omega (arith, ih.1, number_lt v b)) (meaning_back v g d.gates (place_gates k a d.rest b) h) in
    let step = place.divides pos (omega (arith, ih.1, bit_lt (lit_true v a))) in
    (one_more (bit (lit_true v a)) (number v as') (number v d.quotient) (number v b) (number v d.rest) (bit (lit_true v (place_bit k a d.rest b))) _ ih.0 step.0, step.1)

-- by 0: every bit of the quotient is 1, and nothing is taken away
pub divided_by_zero : (v : ℕ → Bool) (g : ℕ) (a b : List Literal) → v 1 ≡ true → number v b ≡ 0 → length a ≤ length b → HaveMeaning v g (divide_gates g a b) → (number v (quotient_bits g a b) + 1 ≡ 2 ^ length a) × (number v (divided g a b).rest ≡ number v a)
divided_by_zero v g [] b one z e h = (refl, number-replicate_false v (length b + 1) false_literal (false_is_false v one))
divided_by_zero v g (a ∷ as') b one z e h =
    let d = divided g as' b in
    let k = g + length d.gates in
    let ih = divided_by_zero v g as' b one z (omega arith) (meaning_front v g d.gates (place_gates k a d.rest b) h) in
    let fits : number v d.rest < 2 ^ length b = omega (arith, ih.1, number_lt v as', pow_mono {i = length as'} {j = length b} (omega arith)) in
    let place = place_number v k a d.rest b one (length-divided_rest g as' b) fits (meaning_back v g d.gates (place_gates k a d.rest b) h) in
    let step = place.by_zero z in
    (omega (arith, ih.0, ap bit step.0, pow-suc 2 (length as')), step.1 ∙ ap (λ n. bit (lit_true v a) + 2 * n) ih.1)

-- ---- the quotient and the remainder

abbrev TheyDivide : (n x y q r : ℕ) → Type 0
TheyDivide n x y q r = (q ≡ udiv_of n x y) × (r ≡ urem_of n x y)

they_divide : (n x y q r : ℕ) → (0 < y → (x ≡ q * y + r) × (r < y)) → (y ≡ 0 → (q + 1 ≡ 2 ^ n) × (r ≡ x)) → TheyDivide n x y q r
they_divide n x zero q r pos zer = let z = zer refl in (omega (arith, z.0), z.1)
they_divide n x (suc y) q r pos zer =
    let p = pos (omega arith) in
    let positive : suc y ≡ 0 → ⊥ = omega arith in
    let other = ne_eqb (suc y) 0 positive in (
      rw other (sym (ap (λ k. k / suc y) p.0 ∙ div-mul-add q (suc y) r p.1)),
      rw other (sym (ap (λ k. k % suc y) p.0 ∙ mod-mul-add q (suc y) r p.1)),
    )

-- what is left fits the divisor's places
rest_fits : (p x y q r n : ℕ) → x < p → y < p → (0 < y → (x ≡ q * y + r) × (r < y)) → (y ≡ 0 → (q + 1 ≡ 2 ^ n) × (r ≡ x)) → r < p
rest_fits p x zero q r n hx hy pos zer = omega (arith, (zer refl).1)
rest_fits p x (suc y) q r n hx hy pos zer = omega (arith, (pos (omega arith)).1)

pub divide_correct : (v : ℕ → Bool) (g : ℕ) (a b : List Literal) → v 1 ≡ true → length a ≡ length b → HaveMeaning v g (divide_gates g a b) → (number v (quotient_bits g a b) ≡ udiv_of (length a) (number v a) (number v b)) × (number v (remainder_bits g a b) ≡ urem_of (length a) (number v a) (number v b))
divide_correct v g a b one e h =
    let rest = (divided g a b).rest in
    let pos = λ (p : 0 < number v b). divided_number v g a b one p h in
    let zer = λ (z : number v b ≡ 0). divided_by_zero v g a b one z (omega arith) h in
    let both = they_divide (length a) (number v a) (number v b) (number v (quotient_bits g a b)) (number v rest) pos zer in
    let below : number v a < 2 ^ length b = subst (λ k. number v a < 2 ^ k) e (number_lt v a) in
    let fits = rest_fits (2 ^ length b) (number v a) (number v b) (number v (quotient_bits g a b)) (number v rest) (length a) below (number_lt v b) pos zer in
    (both.0, number-take_fits v (length b) rest fits ∙ both.1)
