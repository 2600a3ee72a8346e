-- Products, quotients and remainders read their arguments, variable 1 and what they make themselves.
use Rattle.std.proofs.Common.{ℕ, suc, ◌+◌, List, [], ◌∷◌, ◌++◌, length, take, drop, arith}
use Rattle.std.specs.Prelude.{map, replicate}
use Rattle.cnf_base.specs.Literals.{Literal, positive_of, negated, true_literal, false_literal}
use Rattle.cnf_base.specs.declared.gate.GateKind.TheVariants.{And, Xor}
use Rattle.cnf_base.specs.Assignments.{fresh_bits}
use Rattle.cnf_base.specs.Adders.{add_gates, add_bits}
use Rattle.cnf_base.specs.Choices.{mux_gates, equal_gates, equal_bit}
use Rattle.circ_plain.specs.Signs.{sign_of, neg_gates, neg_bits, signed_gates, signed_bits, abs_gates}
use Rattle.circ_muldiv.specs.Products.{row_gates, sum_gates, sum_bits, rows_gates, rows_bits, mul_gates, mul_bits}
use Rattle.circ_muldiv.specs.Quotients.{shifted, complement_of, difference_gates, place_gates, place_bit, place_rest, divided, divide_gates, quotient_bits, remainder_bits}
use Rattle.circ_muldiv.specs.Signed.{magnitudes, sdiv_gates, sdiv_bits, srem_gates, srem_bits, smod_gates, smod_bits}
use Rattle.reached_steps.proofs.Inputs.{AreOf, EachReads, HasFrom, later, of-append, reads-append, of-replicate, of-take, of-drop, of-negated, of-fresh_bits, of-sign}
use Rattle.reached_steps.proofs.Plain.{add_gates-read, add_bits-of, add_carry-of, mux_gates-read, equal_gates-read, equal_bit-of, neg_gates-read, neg_bits-of, signed_gates-read, signed_bits-of, abs_gates-read}

-- a division in its course
pub record ReadsDivision (S : ℕ → Type 0) (g : ℕ) (a b : List Literal) : Type 0 where
  pub gates : EachReads S (divide_gates g a b)
  pub quotient : AreOf S (quotient_bits g a b)
  pub rest : AreOf S (divided g a b).rest

pub record ReadsMagnitudes (S : ℕ → Type 0) (g : ℕ) (a b : List Literal) : Type 0 where
  pub gates : EachReads S (magnitudes g a b).gates
  pub quotient : AreOf S (magnitudes g a b).quotient
  pub remainder : AreOf S (magnitudes g a b).remainder

module _ (S : ℕ → Type 0) (one : S 1) where
  -- the variables behind n more
  behind : (g n : ℕ) → HasFrom S g → HasFrom S (g + n)
  behind g n up = later S g (g + n) (omega arith) up

  -- ---- products

  row_gates-read : (a : List Literal) (b : Literal) → AreOf S a → S b.variable → EachReads S (row_gates a b)
  row_gates-read [] b ha hb = tt
  row_gates-read (x ∷ a) b ha hb = ((ha.0, hb), row_gates-read a b ha.1 hb)

  sum_gates-read : (g : ℕ) (p a : List Literal) (b : Literal) → HasFrom S g → AreOf S p → AreOf S a → S b.variable → EachReads S (sum_gates g p a b)
  sum_gates-read g p a b up hp ha hb =
      let q = fresh_bits g (length a) in
      reads-append S (row_gates a b) (add_gates (g + length a) p q false_literal) (row_gates-read a b ha hb)
      (add_gates-read S one p q (g + length a) false_literal (behind g (length a) up) hp (of-fresh_bits S (length a) g up) one)

  sum_bits-of : (g : ℕ) (p a : List Literal) → HasFrom S g → AreOf S (sum_bits g p a)
  sum_bits-of g p a up = add_bits-of S one p (fresh_bits g (length a)) (g + length a) (behind g (length a) up)

  rows_gates-read : (g : ℕ) (p a bs : List Literal) → HasFrom S g → AreOf S p → AreOf S a → AreOf S bs → EachReads S (rows_gates g p a bs)
  rows_gates-read g p a [] up hp ha hb = tt
  rows_gates-read g p a (b ∷ bs) up hp ha hb =
      let ks = sum_gates g p a b in
      let s = drop 1 (sum_bits g p a) in
      let xs = take (length bs) a in
      reads-append S ks (rows_gates (g + length ks) s xs bs) (sum_gates-read g p a b up hp ha hb.0)
      (rows_gates-read (g + length ks) s xs bs (behind g (length ks) up) (of-drop S 1 (sum_bits g p a) (sum_bits-of g p a up)) (of-take S (length bs) a ha) hb.1)

  rows_bits-of : (g : ℕ) (p a bs : List Literal) → HasFrom S g → AreOf S (rows_bits g p a bs)
  rows_bits-of g p a [] up = tt
  rows_bits-of g p a (b ∷ bs) up =
      let ks = sum_gates g p a b in
      let s = sum_bits g p a in
      of-append S (take 1 s) (rows_bits (g + length ks) (drop 1 s) (take (length bs) a) bs) (of-take S 1 s (sum_bits-of g p a up))
      (rows_bits-of (g + length ks) (drop 1 s) (take (length bs) a) bs (behind g (length ks) up))

  pub mul_gates-read : (g : ℕ) (a b : List Literal) → HasFrom S g → AreOf S a → AreOf S b → EachReads S (mul_gates g a b)
  mul_gates-read g a [] up ha hb = tt
  mul_gates-read g a (b ∷ bs) up ha hb =
      let s = fresh_bits g (length a) in
      let xs = take (length bs) a in
      reads-append S (row_gates a b) (rows_gates (g + length a) (drop 1 s) xs bs) (row_gates-read a b ha hb.0)
      (rows_gates-read (g + length a) (drop 1 s) xs bs (behind g (length a) up) (of-drop S 1 s (of-fresh_bits S (length a) g up)) (of-take S (length bs) a ha) hb.1)

  pub mul_bits-of : (g : ℕ) (a b : List Literal) → HasFrom S g → AreOf S (mul_bits g a b)
  mul_bits-of g a [] up = tt
  mul_bits-of g a (b ∷ bs) up =
      let s = fresh_bits g (length a) in
      of-append S (take 1 s) (rows_bits (g + length a) (drop 1 s) (take (length bs) a) bs) (of-take S 1 s (of-fresh_bits S (length a) g up))
      (rows_bits-of (g + length a) (drop 1 s) (take (length bs) a) bs (behind g (length a) up))

  -- ---- divisions

  shifted-of : (a : Literal) (r b : List Literal) → S a.variable → AreOf S r → AreOf S (shifted a r b)
  shifted-of a r b ha hr = (ha, of-take S (length b) r hr)

  complement-of : (b : List Literal) → AreOf S b → AreOf S (complement_of b)
  complement-of b hb = of-append S (map negated b) (true_literal ∷ []) (of-negated S b hb) (one, tt)

  place_bit-of : (g : ℕ) (a : Literal) (r b : List Literal) → HasFrom S g → S (place_bit g a r b).variable
  place_bit-of g a r b up = add_carry-of S one (shifted a r b) (complement_of b) g true_literal up one

  place_gates-read : (g : ℕ) (a : Literal) (r b : List Literal) → HasFrom S g → S a.variable → AreOf S r → AreOf S b → EachReads S (place_gates g a r b)
  place_gates-read g a r b up ha hr hb =
      let x = shifted a r b in
      let o = complement_of b in
      let hx = shifted-of a r b ha hr in
      reads-append S (difference_gates g a r b) (mux_gates (place_bit g a r b) (add_bits g x o) x)
      (add_gates-read S one x o g true_literal up hx (complement-of b hb) one)
      (mux_gates-read S one (place_bit g a r b) (add_bits g x o) x (place_bit-of g a r b up) (add_bits-of S one x o g up) hx)

  place_rest-of : (g : ℕ) (a : Literal) (r b : List Literal) → HasFrom S g → AreOf S (place_rest g a r b)
  place_rest-of g a r b up = of-fresh_bits S (length b + 1) (g + length (difference_gates g a r b)) (behind g (length (difference_gates g a r b)) up)

  pub division-read : (g : ℕ) (a b : List Literal) → HasFrom S g → AreOf S a → AreOf S b → ReadsDivision S g a b
  division-read g [] b up ha hb = record {
    gates = tt;
    quotient = tt;
    rest = of-replicate S (length b + 1) false_literal one;
  }
  division-read g (a ∷ as') b up ha hb =
      let d = divided g as' b in
      let h = g + length d.gates in
      let before = division-read g as' b up ha.1 hb in
      let next = behind g (length d.gates) up in
      record {
        gates = reads-append S d.gates (place_gates h a d.rest b) before.gates (place_gates-read h a d.rest b next ha.0 before.rest hb);
        quotient = (place_bit-of h a d.rest b next, before.quotient);
        rest = place_rest-of h a d.rest b next;
      }

  pub remainder_bits-of : (g : ℕ) (a b : List Literal) → HasFrom S g → AreOf S a → AreOf S b → AreOf S (remainder_bits g a b)
  remainder_bits-of g a b up ha hb = of-take S (length b) (divided g a b).rest (division-read g a b up ha hb).rest

  -- ---- signed operators

  magnitudes-read : (g : ℕ) (a b : List Literal) → HasFrom S g → AreOf S a → AreOf S b → ReadsMagnitudes S g a b
  magnitudes-read g a b up ha hb =
      let ga = abs_gates g a in
      let h = g + length ga in
      let gb = abs_gates h b in
      let k = h + length gb in
      let x = signed_bits g a in
      let y = signed_bits h b in
      let uph = behind g (length ga) up in
      let upk = behind h (length gb) uph in
      let hx = signed_bits-of S one g a up in
      let hy = signed_bits-of S one h b uph in
      let division = division-read k x y upk hx hy in
      record {
        gates = reads-append S ga (gb ++ divide_gates k x y) (abs_gates-read S one g a up ha) (reads-append S gb (divide_gates k x y) (abs_gates-read S one h b uph hb) division.gates);
        quotient = division.quotient;
        remainder = remainder_bits-of k x y upk hx hy;
      }

  pub sdiv_read : (g : ℕ) (a b : List Literal) → HasFrom S g → AreOf S a → AreOf S b → EachReads S (sdiv_gates g a b) × AreOf S (sdiv_bits g a b)
  sdiv_read g a b up ha hb =
      let m = magnitudes g a b in
      let all = magnitudes-read g a b up ha hb in
      let h = g + length m.gates in
      let q = m.quotient in
      let negate = neg_gates h q in
      let x = h + length negate in
      let uph = behind g (length m.gates) up in
      let upx = behind h (length negate) uph in
      let choice = mux_gates (positive_of x) (neg_bits h q) q in (
        reads-append S m.gates (negate ++ Xor (sign_of a) (sign_of b) ∷ choice) all.gates
            (reads-append S negate (Xor (sign_of a) (sign_of b) ∷ choice) (neg_gates-read S one h q uph all.quotient)
            ((of-sign S a one ha, of-sign S b one hb), mux_gates-read S one (positive_of x) (neg_bits h q) q (upx x (omega arith)) (neg_bits-of S one h q uph) all.quotient)),
        of-fresh_bits S (length q) (suc x) (later S x (suc x) (omega arith) upx),
      )

  pub srem_read : (g : ℕ) (a b : List Literal) → HasFrom S g → AreOf S a → AreOf S b → EachReads S (srem_gates g a b) × AreOf S (srem_bits g a b)
  srem_read g a b up ha hb =
      let m = magnitudes g a b in
      let all = magnitudes-read g a b up ha hb in
      let h = g + length m.gates in
      let uph = behind g (length m.gates) up in (
        reads-append S m.gates (signed_gates h (sign_of a) m.remainder) all.gates (signed_gates-read S one h (sign_of a) m.remainder uph (of-sign S a one ha) all.remainder),
        signed_bits-of S one h m.remainder uph,
      )

  pub smod_read : (g : ℕ) (a b : List Literal) → HasFrom S g → AreOf S a → AreOf S b → EachReads S (smod_gates g a b) × AreOf S (smod_bits g a b)
  smod_read g a b up ha hb =
      let m = magnitudes g a b in
      let all = magnitudes-read g a b up ha hb in
      let h = g + length m.gates in
      let u = m.remainder in
      let zero = replicate (length u) false_literal in
      let ws = signed_gates h (sign_of a) u in
      let x = h + length ws in
      let zs = equal_gates (suc x) true_literal u zero in
      let z = equal_bit (suc x) true_literal u zero in
      let y = suc x + length zs in
      let moves = And (positive_of x) (negated z) in
      let w = signed_bits h u in
      let sum = sum_gates (suc y) w b (positive_of y) in
      let uph = behind g (length m.gates) up in
      let upx = behind h (length ws) uph in
      let upz = later S x (suc x) (omega arith) upx in
      let upy = behind (suc x) (length zs) upz in
      let ups = later S y (suc y) (omega arith) upy in
      let sa = of-sign S a one ha in (
        reads-append S m.gates (ws ++ Xor (sign_of a) (sign_of b) ∷ (zs ++ moves ∷ sum)) all.gates
            (reads-append S ws (Xor (sign_of a) (sign_of b) ∷ (zs ++ moves ∷ sum)) (signed_gates-read S one h (sign_of a) u uph sa all.remainder) (
              (sa, of-sign S b one hb),
              reads-append S zs (moves ∷ sum) (equal_gates-read S one u zero (suc x) true_literal upz all.remainder (of-replicate S (length u) false_literal one) one)
                  ((upx x (omega arith), equal_bit-of S one u zero (suc x) true_literal upz one), sum_gates-read (suc y) w b (positive_of y) ups (signed_bits-of S one h u uph) hb (upy y (omega arith))),
            )),
        sum_bits-of (suc y) w b ups,
      )
