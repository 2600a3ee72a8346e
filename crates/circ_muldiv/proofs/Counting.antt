-- How many gates each circuit has.
use Rattle.std.proofs.Common.{◌≡◌, ℕ, zero, suc, ◌+◌, ◌-◌, ◌*◌, ◌^◌, ◌≤◌, List, [], ◌∷◌, ◌++◌, length, take, drop, refl, sym, ap, ◌∙◌, arith, length-append}
use Rattle.std.proofs.lemmas.List.{length-take-le, length-replicate}
use Rattle.std.proofs.Math.Nat.{mul-le-mul_right}
use Rattle.std.specs.Prelude.{replicate}
use Rattle.cnf_base.specs.Literals.{Literal, positive_of, negated, true_literal, false_literal}
use Rattle.cnf_base.specs.declared.gate.GateKind.TheVariants.{And, Xor}
use Rattle.cnf_base.specs.Adders.{add_gates, add_bits}
use Rattle.cnf_base.specs.Assignments.{fresh_bits}
use Rattle.cnf_base.specs.Choices.{mux_gates, equal_gates, equal_bit}
use Rattle.cnf_base.proofs.Adding.{length-add_gates, length-add_bits}
use Rattle.circ_plain.specs.Signs.{sign_of, neg_gates, neg_bits, signed_gates, signed_bits, abs_gates}
use Rattle.circ_plain.proofs.Negating.{length-neg_gates, length-neg_bits, length-signed_gates, length-signed_bits, length-abs_gates}
use Rattle.circ_muldiv.specs.Products.{row_gates, sum_gates, sum_bits, rows_gates, mul_gates}
use Rattle.circ_muldiv.specs.Quotients.{shifted, complement_of, difference_gates, place_gates, place_bit, divided, divide_gates}
use Rattle.circ_muldiv.specs.Signed.{magnitudes, sdiv_gates, srem_gates, smod_gates}
use Rattle.circ_muldiv.specs.Sizes.{mul_size, divide_size, magnitudes_size, sdiv_size, srem_size, smod_size}
use Rattle.cnf_base.proofs.Rows.{length-fresh_bits}
use Rattle.cnf_base.proofs.Choosing.{length-mux_gates}
use Rattle.cnf_base.proofs.Equating.{length-equal_gates}
use Rattle.circ_muldiv.proofs.Multiplying.{length-row_gates, length-sum_bits, length-rest}
use Rattle.circ_muldiv.proofs.Dividing.{length-complement, length-shifted, length-divided_rest, length-quotient, length-remainder}

-- ---- products

pub length-sum_gates : (g : ℕ) (p a : List Literal) (b : Literal) → length p ≡ length a → length (sum_gates g p a b) ≡ 4 * length a
length-sum_gates g p a b e =
    let q = fresh_bits g (length a) in
    let adds = length-add_gates (g + length a) p q false_literal (e ∙ sym (length-fresh_bits (length a) g)) in
    length-append (row_gates a b) (add_gates (g + length a) p q false_literal) ∙ omega (arith, length-row_gates a b, adds, e)

pub length-rows_gates : (g : ℕ) (p a bs : List Literal) → length p ≡ length bs → length a ≡ length bs → length (rows_gates g p a bs) ≡ 2 * (length bs * (length bs + 1))
length-rows_gates g p a [] ep ea = refl
length-rows_gates g p a (b ∷ bs) ep ea =
    let n = length bs in
    let ks = sum_gates g p a b in
    let s = sum_bits g p a in
    let same : length p ≡ length a = ep ∙ sym ea in
    let ls : length s ≡ suc n = length-sum_bits g p a same ∙ ep in
    let rest = length-rows_gates (g + length ks) (drop 1 s) (take n a) bs (length-rest s n ls) (length-take-le n a (omega (arith, ea))) in
    length-append ks (rows_gates (g + length ks) (drop 1 s) (take n a) bs)
    ∙ omega (arith, length-sum_gates g p a b same, rest, ea, squares n)
  where
    squares : (n : ℕ) → suc n * (suc n + 1) ≡ n * (n + 1) + 2 * n + 2
    squares n = omega arith

pub length-mul_gates : (g : ℕ) (a b : List Literal) → length a ≡ length b → length (mul_gates g a b) ≡ mul_size (length a)
length-mul_gates g [] [] e = refl
length-mul_gates g (x ∷ a) [] e = absurd (omega arith)
length-mul_gates g a (b ∷ bs) e =
    let n = length bs in
    let s = fresh_bits g (length a) in
    let ls : length s ≡ suc n = length-fresh_bits (length a) g ∙ e in
    let rest = length-rows_gates (g + length a) (drop 1 s) (take n a) bs (length-rest s n ls) (length-take-le n a (omega (arith, e))) in
    length-append (row_gates a b) (rows_gates (g + length a) (drop 1 s) (take n a) bs)
    ∙ total n (length-row_gates a b ∙ e) rest
    ∙ ap mul_size (sym e)
  where
    total : (n : ℕ) {x y : ℕ} → x ≡ suc n → y ≡ 2 * (n * (n + 1)) → x + y ≡ mul_size (suc n)
    total n e f = let odd : 2 * suc n - 1 ≡ 2 * n + 1 = omega arith in rw odd (omega (arith, e, f))

-- ---- quotients

pub length-difference_gates : (g : ℕ) (a : Literal) (r b : List Literal) → length r ≡ suc (length b) → length (difference_gates g a r b) ≡ 3 * (length b + 1)
length-difference_gates g a r b e =
    let lx = length-shifted a r b e in
    length-add_gates g (shifted a r b) (complement_of b) true_literal (lx ∙ sym (length-complement b)) ∙ omega (arith, lx)

pub length-place_gates : (g : ℕ) (a : Literal) (r b : List Literal) → length r ≡ suc (length b) → length (place_gates g a r b) ≡ 4 * (length b + 1)
length-place_gates g a r b e =
    let x = shifted a r b in
    let o = complement_of b in
    let d = add_bits g x o in
    let lx = length-shifted a r b e in
    let ld = length-add_bits g x o (lx ∙ sym (length-complement b)) in
    length-append (difference_gates g a r b) (mux_gates (place_bit g a r b) d x)
    ∙ omega (arith, length-difference_gates g a r b e, length-mux_gates (place_bit g a r b) d x ld, ld, lx)

pub length-divided_gates : (g : ℕ) (a b : List Literal) → length (divide_gates g a b) ≡ 4 * length a * (length b + 1)
length-divided_gates g [] b = omega arith
length-divided_gates g (a ∷ as') b =
    let d = divided g as' b in
    let k = g + length d.gates in
    length-append d.gates (place_gates k a d.rest b)
    ∙ omega (arith, length-divided_gates g as' b, length-place_gates k a d.rest b (length-divided_rest g as' b))

pub length-divide_gates : (g : ℕ) (a b : List Literal) → length a ≡ length b → length (divide_gates g a b) ≡ divide_size (length a)
length-divide_gates g a b e = length-divided_gates g a b ∙ ap (λ n. 4 * length a * (n + 1)) (sym e)

-- ---- signed operators

pub length-magnitudes : (g : ℕ) (a b : List Literal) → length a ≡ length b → length (magnitudes g a b).gates ≡ magnitudes_size (length a)
length-magnitudes g a b e =
    let ga = abs_gates g a in
    let h = g + length ga in
    let gb = abs_gates h b in
    let k = h + length gb in
    let x = signed_bits g a in
    let y = signed_bits h b in
    let lx = length-signed_bits g a in
    let ly = length-signed_bits h b in
    let d = length-divide_gates k x y (lx ∙ e ∙ sym ly) ∙ ap divide_size lx in
    length-append ga (gb ++ divide_gates k x y)
    ∙ ap (λ n. length ga + n) (length-append gb (divide_gates k x y))
    ∙ omega (arith, length-abs_gates g a, length-abs_gates h b, d, e)

pub length-magnitudes_quotient : (g : ℕ) (a b : List Literal) → length (magnitudes g a b).quotient ≡ length a
length-magnitudes_quotient g a b =
    let h = g + length (abs_gates g a) in
    length-quotient (h + length (abs_gates h b)) (signed_bits g a) (signed_bits h b) ∙ length-signed_bits g a

pub length-magnitudes_remainder : (g : ℕ) (a b : List Literal) → length (magnitudes g a b).remainder ≡ length b
length-magnitudes_remainder g a b =
    let h = g + length (abs_gates g a) in
    length-remainder (h + length (abs_gates h b)) (signed_bits g a) (signed_bits h b) ∙ length-signed_bits h b

pub length-sdiv_gates : (g : ℕ) (a b : List Literal) → length a ≡ length b → length (sdiv_gates g a b) ≡ sdiv_size (length a)
length-sdiv_gates g a b e =
    let m = magnitudes g a b in
    let h = g + length m.gates in
    let q = m.quotient in
    let n = neg_bits h q in
    let x = h + length (neg_gates h q) in
    let choice = mux_gates (positive_of x) n q in
    let lq = length-magnitudes_quotient g a b in
    length-append m.gates (neg_gates h q ++ Xor (sign_of a) (sign_of b) ∷ choice)
    ∙ ap (λ k. length m.gates + k) (length-append (neg_gates h q) (Xor (sign_of a) (sign_of b) ∷ choice))
    ∙ omega (arith, length-magnitudes g a b e, length-neg_gates h q, length-mux_gates (positive_of x) n q (length-neg_bits h q), length-neg_bits h q, lq)

pub length-srem_gates : (g : ℕ) (a b : List Literal) → length a ≡ length b → length (srem_gates g a b) ≡ srem_size (length a)
length-srem_gates g a b e =
    let m = magnitudes g a b in
    let h = g + length m.gates in
    length-append m.gates (signed_gates h (sign_of a) m.remainder)
    ∙ omega (arith, length-magnitudes g a b e, length-signed_gates h (sign_of a) m.remainder, length-magnitudes_remainder g a b, e)

pub length-smod_gates : (g : ℕ) (a b : List Literal) → length a ≡ length b → length (smod_gates g a b) ≡ smod_size (length a)
length-smod_gates g a b e =
    let s = sign_of a in
    let m = magnitudes g a b in
    let u = m.remainder in
    let h = g + length m.gates in
    let w = signed_bits h u in
    let ws = signed_gates h s u in
    let x = h + length ws in
    let zs = equal_gates (suc x) true_literal u (replicate (length u) false_literal) in
    let z = equal_bit (suc x) true_literal u (replicate (length u) false_literal) in
    let y = suc x + length zs in
    let sum = sum_gates (suc y) w b (positive_of y) in
    let after_zero = And (positive_of x) (negated z) ∷ sum in
    let lu = length-magnitudes_remainder g a b in
    let lz = length-equal_gates (suc x) true_literal u (replicate (length u) false_literal) (sym (length-replicate (length u) false_literal)) in
    let lw = length-signed_bits h u in
    length-append m.gates (ws ++ Xor s (sign_of b) ∷ (zs ++ after_zero))
    ∙ ap (λ k. length m.gates + k) (length-append ws (Xor s (sign_of b) ∷ (zs ++ after_zero)))
    ∙ ap (λ k. length m.gates + (length ws + suc k)) (length-append zs after_zero)
    ∙ omega (arith, length-magnitudes g a b e, length-signed_gates h s u, lz, length-sum_gates (suc y) w b (positive_of y) (lw ∙ lu), lu, e)

-- ---- at most 2^17 gates

sizes : (n : ℕ) → n ≤ 128 → n * n ≤ 128 * n
sizes n h = mul-le-mul_right n h

pub mul_small : (n : ℕ) → n ≤ 128 → mul_size n ≤ 2 ^ 17
mul_small zero h = omega arith
mul_small (suc n) h = let odd : 2 * suc n - 1 ≡ 2 * n + 1 = omega arith in rw odd (omega (arith, sizes n (omega arith)))

pub divide_small : (n : ℕ) → n ≤ 128 → divide_size n ≤ 2 ^ 16 + 512
divide_small n h = omega (arith, sizes n h)
