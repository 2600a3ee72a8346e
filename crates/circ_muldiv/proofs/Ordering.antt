-- The inputs of each gate stand before it, and the bits of a result are of variables that were made or handed in.
use Rattle.std.proofs.Common.{◌≡◌, ℕ, suc, ◌+◌, ◌<◌, ◌≤◌, List, [], ◌∷◌, ◌++◌, length, length-append, take, drop, sym, subst, arith}
use Rattle.std.specs.Prelude.{map, replicate}
use Rattle.cnf_base.specs.Literals.{Literal, positive_of, negated, true_literal, false_literal}
use Rattle.cnf_base.specs.declared.gate.GateKind.TheVariants.{And, Xor}
use Rattle.cnf_base.specs.Gates.{AreOrdered}
use Rattle.cnf_base.specs.Assignments.{AreBelow, fresh_bits}
use Rattle.cnf_base.specs.Adders.{add_gates, add_bits}
use Rattle.cnf_base.specs.Choices.{mux_gates, equal_gates, equal_bit}
use Rattle.cnf_base.proofs.Agreeing.{AreBelow-more, AreBelow-append, AreBelow-negated, AreBelow-fresh_bits, AreBelow-replicate, AreBelow-take, AreBelow-drop}
use Rattle.cnf_base.proofs.Extending.{AreOrdered-append}
use Rattle.cnf_base.proofs.Adding.{add_gates-ordered, add_bits-below, add_carry-below}
use Rattle.cnf_base.proofs.Choosing.{mux_gates-ordered}
use Rattle.cnf_base.proofs.Equating.{equal_gates-ordered, equal_bit-below}
use Rattle.circ_plain.specs.Signs.{sign_of, neg_gates, neg_bits, signed_gates, signed_bits, abs_gates}
use Rattle.circ_plain.proofs.Negating.{length-neg_gates}
use Rattle.circ_plain.proofs.Ordering.{sign_of-below, neg_gates-ordered, neg_bits-below, signed_gates-ordered, signed_bits-below, abs_gates-ordered}
use Rattle.circ_muldiv.specs.Products.{row_gates, sum_gates, sum_bits, rows_gates, rows_bits, mul_gates, mul_bits}
use Rattle.circ_muldiv.specs.Quotients.{shifted, complement_of, difference_gates, place_gates, place_bit, place_rest, divided, divide_gates, quotient_bits, remainder_bits}
use Rattle.circ_muldiv.specs.Signed.{magnitudes, sdiv_gates, sdiv_bits, srem_gates, srem_bits, smod_gates, smod_bits}
use Rattle.circ_muldiv.proofs.Multiplying.{length-row_gates}
use Rattle.circ_muldiv.proofs.Dividing.{length-divided_rest}
use Rattle.circ_muldiv.proofs.Counting.{length-difference_gates, length-place_gates, length-magnitudes_quotient, length-sdiv_gates, length-magnitudes}

-- ---- rows

later : (g n : ℕ) (a : List Literal) → AreBelow g a → AreBelow (g + n) a
later g n a h = AreBelow-more g (g + n) (omega arith) a h

-- ---- products

row_gates-ordered : (a : List Literal) (g : ℕ) (b : Literal) → AreBelow g a → b.variable < g → AreOrdered g (row_gates a b)
row_gates-ordered [] g b ha hb = tt
row_gates-ordered (x ∷ a) g b ha hb =
    let up : g ≤ suc g = omega arith in
    ((ha.0, hb), row_gates-ordered a (suc g) b (AreBelow-more g (suc g) up a ha.1) (omega arith))

pub sum_gates-ordered : (g : ℕ) (p a : List Literal) (b : Literal) → 1 < g → AreBelow g p → AreBelow g a → b.variable < g → AreOrdered g (sum_gates g p a b)
sum_gates-ordered g p a b one hp ha hb =
    let q = fresh_bits g (length a) in
    let adds = add_gates (g + length a) p q false_literal in
    let second = add_gates-ordered p q (g + length a) false_literal (later g (length a) p hp) (AreBelow-fresh_bits (length a) g) (omega arith) in
    AreOrdered-append (row_gates a b) adds g (row_gates-ordered a g b ha hb) (subst (λ n. AreOrdered (g + n) adds) (sym (length-row_gates a b)) second)

pub sum_bits-below : (g : ℕ) (p a : List Literal) (b : Literal) → AreBelow (g + length (sum_gates g p a b)) (sum_bits g p a)
sum_bits-below g p a b =
    let q = fresh_bits g (length a) in
    let adds = add_gates (g + length a) p q false_literal in
    let e : g + length a + length adds ≡ g + length (sum_gates g p a b) = omega (arith, length-append (row_gates a b) adds, length-row_gates a b) in
    subst (λ n. AreBelow n (sum_bits g p a)) e (add_bits-below p q (g + length a) false_literal)

rows_stand : (g : ℕ) (p a bs : List Literal) → 1 < g → AreBelow g p → AreBelow g a → AreBelow g bs → AreOrdered g (rows_gates g p a bs) × AreBelow (g + length (rows_gates g p a bs)) (rows_bits g p a bs)
rows_stand g p a [] one hp ha hb = (tt, tt)
rows_stand g p a (b ∷ bs) one hp ha hb =
    let ks = sum_gates g p a b in
    let s = sum_bits g p a in
    let h = g + length ks in
    let hs = sum_bits-below g p a b in
    let xs = take (length bs) a in
    let rest = rows_stand h (drop 1 s) xs bs (omega arith) (AreBelow-drop 1 h s hs) (later g (length ks) xs (AreBelow-take (length bs) g a ha)) (later g (length ks) bs hb.1) in
    let more = rows_gates h (drop 1 s) xs bs in
    let e : h + length more ≡ g + length (ks ++ more) = omega (arith, length-append ks more) in (
      AreOrdered-append ks more g (sum_gates-ordered g p a b one hp ha hb.0) rest.0,
      subst (λ n. AreBelow n (take 1 s ++ rows_bits h (drop 1 s) xs bs)) e (AreBelow-append (h + length more) (take 1 s) (rows_bits h (drop 1 s) xs bs) (later h (length more) (take 1 s) (AreBelow-take 1 h s hs)) rest.1),
    )

pub mul_stands : (g : ℕ) (a b : List Literal) → 1 < g → AreBelow g a → AreBelow g b → AreOrdered g (mul_gates g a b) × AreBelow (g + length (mul_gates g a b)) (mul_bits g a b)
mul_stands g a [] one ha hb = (tt, tt)
mul_stands g a (b ∷ bs) one ha hb =
    let ks = row_gates a b in
    let s = fresh_bits g (length a) in
    let h = g + length a in
    let hs = AreBelow-fresh_bits (length a) g in
    let xs = take (length bs) a in
    let rest = rows_stand h (drop 1 s) xs bs (omega arith) (AreBelow-drop 1 h s hs) (later g (length a) xs (AreBelow-take (length bs) g a ha)) (later g (length a) bs hb.1) in
    let more = rows_gates h (drop 1 s) xs bs in
    let lk = length-row_gates a b in
    let e : h + length more ≡ g + length (ks ++ more) = omega (arith, length-append ks more, lk) in (
      AreOrdered-append ks more g (row_gates-ordered a g b ha hb.0) (subst (λ n. AreOrdered (g + n) more) (sym lk) rest.0),
      subst (λ n. AreBelow n (take 1 s ++ rows_bits h (drop 1 s) xs bs)) e (AreBelow-append (h + length more) (take 1 s) (rows_bits h (drop 1 s) xs bs) (later h (length more) (take 1 s) (AreBelow-take 1 h s hs)) rest.1),
    )

-- ---- divisions

place_stands : (g : ℕ) (a : Literal) (r b : List Literal) → 1 < g → a.variable < g → AreBelow g r → AreBelow g b → length r ≡ suc (length b) → AreOrdered g (place_gates g a r b) × ((place_bit g a r b).variable < g + length (place_gates g a r b)) × AreBelow (g + length (place_gates g a r b)) (place_rest g a r b)
place_stands g a r b one ha hr hb long =
    let x = shifted a r b in
    let o = complement_of b in
    let first = difference_gates g a r b in
    let h = g + length first in
    let c = place_bit g a r b in
    let d = add_bits g x o in
    let hx : AreBelow g x = (ha, AreBelow-take (length b) g r hr) in
    let ho : AreBelow g o = AreBelow-append g (map negated b) (true_literal ∷ []) (AreBelow-negated g b hb) (one, tt) in
    let carry = add_carry-below x o g true_literal one in
    let all : length (place_gates g a r b) ≡ length first + length (mux_gates c d x) = length-append first (mux_gates c d x) in
    let e : h + (length b + 1) ≡ g + length (place_gates g a r b) = omega (arith, length-place_gates g a r b long, length-difference_gates g a r b long) in (
      AreOrdered-append first (mux_gates c d x) g (add_gates-ordered x o g true_literal hx ho one) (mux_gates-ordered d x h c (add_bits-below x o g true_literal) (later g (length first) x hx) carry),
      omega (arith, carry, all),
      subst (λ n. AreBelow n (place_rest g a r b)) e (AreBelow-fresh_bits (length b + 1) h),
    )

-- a division in its course
pub record DivisionStands (g : ℕ) (a b : List Literal) : Type 0 where
  pub ordered : AreOrdered g (divide_gates g a b)
  pub quotient : AreBelow (g + length (divide_gates g a b)) (quotient_bits g a b)
  pub rest : AreBelow (g + length (divide_gates g a b)) (divided g a b).rest

pub division_stands : (g : ℕ) (a b : List Literal) → 1 < g → AreBelow g a → AreBelow g b → DivisionStands g a b
division_stands g [] b one ha hb = record {
  ordered = tt;
  quotient = tt;
  rest = later g 0 (replicate (length b + 1) false_literal) (AreBelow-replicate (length b + 1) g false_literal one);
}
division_stands g (a ∷ as') b one ha hb =
    let d = divided g as' b in
    let h = g + length d.gates in
    let before = division_stands g as' b one ha.1 hb in
    let a_below : a.variable < h = omega (arith, ha.0) in
    let place = place_stands h a d.rest b (omega arith) a_below before.rest (later g (length d.gates) b hb) (length-divided_rest g as' b) in
    let ks = place_gates h a d.rest b in
    let e : h + length ks ≡ g + length (d.gates ++ ks) = omega (arith, length-append d.gates ks) in
    record {
      ordered = AreOrdered-append d.gates ks g before.ordered place.0;
      quotient = subst (λ n. AreBelow n (place_bit h a d.rest b ∷ d.quotient)) e (place.1, later h (length ks) d.quotient before.quotient);
      rest = subst (λ n. AreBelow n (place_rest h a d.rest b)) e place.2;
    }

pub remainder_bits-below : (g : ℕ) (a b : List Literal) → 1 < g → AreBelow g a → AreBelow g b → AreBelow (g + length (divide_gates g a b)) (remainder_bits g a b)
remainder_bits-below g a b one ha hb =
    AreBelow-take (length b) (g + length (divide_gates g a b)) (divided g a b).rest (division_stands g a b one ha hb).rest

-- ---- signed operators

pub record MagnitudesStand (g : ℕ) (a b : List Literal) : Type 0 where
  pub ordered : AreOrdered g (magnitudes g a b).gates
  pub quotient : AreBelow (g + length (magnitudes g a b).gates) (magnitudes g a b).quotient
  pub remainder : AreBelow (g + length (magnitudes g a b).gates) (magnitudes g a b).remainder

magnitudes_stand : (g : ℕ) (a b : List Literal) → 1 < g → AreBelow g a → AreBelow g b → MagnitudesStand g a b
magnitudes_stand g a b one ha hb =
    let ga = abs_gates g a in
    let h = g + length ga in
    let gb = abs_gates h b in
    let k = h + length gb in
    let x = signed_bits g a in
    let y = signed_bits h b in
    let gd = divide_gates k x y in
    let hx = later h (length gb) x (signed_bits-below g (sign_of a) a) in
    let hy = signed_bits-below h (sign_of b) b in
    let division = division_stands k x y (omega arith) hx hy in
    let e : k + length gd ≡ g + length (ga ++ (gb ++ gd)) = omega (arith, length-append ga (gb ++ gd), length-append gb gd) in
    record {
      ordered = AreOrdered-append ga (gb ++ gd) g (abs_gates-ordered g a one ha) (AreOrdered-append gb gd h (abs_gates-ordered h b (omega arith) (later g (length ga) b hb)) division.ordered);
      quotient = subst (λ n. AreBelow n (quotient_bits k x y)) e division.quotient;
      remainder = subst (λ n. AreBelow n (remainder_bits k x y)) e (remainder_bits-below k x y (omega arith) hx hy);
    }

pub sdiv_stands : (g : ℕ) (a b : List Literal) → 1 < g → length a ≡ length b → AreBelow g a → AreBelow g b → AreOrdered g (sdiv_gates g a b) × AreBelow (g + length (sdiv_gates g a b)) (sdiv_bits g a b)
sdiv_stands g a b one same ha hb =
    let m = magnitudes g a b in
    let stand = magnitudes_stand g a b one ha hb in
    let h = g + length m.gates in
    let q = m.quotient in
    let negate = neg_gates h q in
    let x = h + length negate in
    let choice = mux_gates (positive_of x) (neg_bits h q) q in
    let sa : (sign_of a).variable < x = omega (arith, sign_of-below g a one ha) in
    let sb : (sign_of b).variable < x = omega (arith, sign_of-below g b one hb) in
    let up : x ≤ suc x = omega arith in
    let e : suc x + length q ≡ g + length (sdiv_gates g a b) = omega (arith, length-sdiv_gates g a b same, length-magnitudes g a b same, length-neg_gates h q, length-magnitudes_quotient g a b) in (
      AreOrdered-append m.gates (negate ++ Xor (sign_of a) (sign_of b) ∷ choice) g stand.ordered
          (AreOrdered-append negate (Xor (sign_of a) (sign_of b) ∷ choice) h (neg_gates-ordered h q (omega arith) stand.quotient)
          ((sa, sb), mux_gates-ordered (neg_bits h q) q (suc x) (positive_of x) (AreBelow-more x (suc x) up (neg_bits h q) (neg_bits-below h q)) (AreBelow-more x (suc x) up q (later h (length negate) q stand.quotient)) (omega arith))),
      subst (λ n. AreBelow n (sdiv_bits g a b)) e (AreBelow-fresh_bits (length q) (suc x)),
    )

pub srem_stands : (g : ℕ) (a b : List Literal) → 1 < g → AreBelow g a → AreBelow g b → AreOrdered g (srem_gates g a b) × AreBelow (g + length (srem_gates g a b)) (srem_bits g a b)
srem_stands g a b one ha hb =
    let m = magnitudes g a b in
    let stand = magnitudes_stand g a b one ha hb in
    let h = g + length m.gates in
    let u = m.remainder in
    let sa : (sign_of a).variable < h = omega (arith, sign_of-below g a one ha) in
    let signed = signed_gates-ordered h (sign_of a) u (omega arith) sa stand.remainder in
    let e : h + length (signed_gates h (sign_of a) u) ≡ g + length (srem_gates g a b) = omega (arith, length-append m.gates (signed_gates h (sign_of a) u)) in (
      AreOrdered-append m.gates (signed_gates h (sign_of a) u) g stand.ordered signed,
      subst (λ n. AreBelow n (srem_bits g a b)) e (signed_bits-below h (sign_of a) u),
    )

pub smod_stands : (g : ℕ) (a b : List Literal) → 1 < g → AreBelow g a → AreBelow g b → AreOrdered g (smod_gates g a b) × AreBelow (g + length (smod_gates g a b)) (smod_bits g a b)
smod_stands g a b one ha hb =
    let m = magnitudes g a b in
    let stand = magnitudes_stand g a b one ha hb in
    let h = g + length m.gates in
    let u = m.remainder in
    let zero = replicate (length u) false_literal in
    let ws = signed_gates h (sign_of a) u in
    let x = h + length ws in
    let zs = equal_gates (suc x) true_literal u zero in
    let z = equal_bit (suc x) true_literal u zero in
    let y = suc x + length zs in
    let moves = And (positive_of x) (negated z) in
    let w = signed_bits h u in
    let sum = sum_gates (suc y) w b (positive_of y) in
    let sa : (sign_of a).variable < h = omega (arith, sign_of-below g a one ha) in
    let signed = signed_gates-ordered h (sign_of a) u (omega arith) sa stand.remainder in
    let sx : (sign_of a).variable < x = omega (arith, sa) in
    let sy : (sign_of b).variable < x = omega (arith, sign_of-below g b one hb) in
    let in_x : x ≤ suc x = omega arith in
    let hu = AreBelow-more x (suc x) in_x u (later h (length ws) u stand.remainder) in
    let hz : z.variable < y = equal_bit-below u zero (suc x) true_literal (omega arith) in
    let in_y : x ≤ suc y = omega arith in
    let in_g : g ≤ suc y = omega arith in
    let last = sum_gates-ordered (suc y) w b (positive_of y) (omega arith) (AreBelow-more x (suc y) in_y w (signed_bits-below h (sign_of a) u)) (AreBelow-more g (suc y) in_g b hb) (omega arith) in
    let e : suc y + length sum ≡ g + length (smod_gates g a b) = omega (arith, length-append m.gates (ws ++ Xor (sign_of a) (sign_of b) ∷ (zs ++ moves ∷ sum)), length-append ws (Xor (sign_of a) (sign_of b) ∷ (zs ++ moves ∷ sum)), length-append zs (moves ∷ sum)) in (
      AreOrdered-append m.gates (ws ++ Xor (sign_of a) (sign_of b) ∷ (zs ++ moves ∷ sum)) g stand.ordered
          (AreOrdered-append ws (Xor (sign_of a) (sign_of b) ∷ (zs ++ moves ∷ sum)) h signed (
            (sx, sy),
            AreOrdered-append zs (moves ∷ sum) (suc x) (equal_gates-ordered u zero (suc x) true_literal hu (AreBelow-replicate (length u) (suc x) false_literal (omega arith)) (omega arith))
                ((omega arith, hz), last),
          )),
      subst (λ n. AreBelow n (smod_bits g a b)) e (sum_bits-below (suc y) w b (positive_of y)),
    )
