-- The circuits of the signed quotient, remainder and modulus: those of the absolute values, with the sign set right.
use Rattle.std.specs.Prelude.{ℕ, suc, ◌+◌, List, ◌∷◌, ◌++◌, length, replicate}
use Rattle.cnf_base.specs.Literals.{Literal, positive_of, negated, true_literal, false_literal}
use Rattle.cnf_base.specs.declared.gate.GateKind.{GateKind}
use Rattle.cnf_base.specs.declared.gate.GateKind.TheVariants.{And, Xor}
use Rattle.cnf_base.specs.Assignments.{fresh_bits}
use Rattle.cnf_base.specs.Choices.{mux_gates, equal_gates, equal_bit}
use Rattle.circ_plain.specs.Signs.{sign_of, neg_gates, neg_bits, signed_gates, signed_bits, abs_gates}
use Rattle.circ_muldiv.specs.Products.{sum_gates, sum_bits}
use Rattle.circ_muldiv.specs.Quotients.{divide_gates, quotient_bits, remainder_bits}

-- the quotient and the remainder of the absolute values
pub record Magnitudes : Type 0 where
  pub gates : List GateKind
  pub quotient : List Literal
  pub remainder : List Literal

abbrev pub magnitudes : ℕ → List Literal → List Literal → Magnitudes
magnitudes g a b =
    let h = g + length (abs_gates g a) in
    let k = h + length (abs_gates h b) in
    let x = signed_bits g a in
    let y = signed_bits h b in
    record {
      gates = abs_gates g a ++ (abs_gates h b ++ divide_gates k x y);
      quotient = quotient_bits k x y;
      remainder = remainder_bits k x y;
    }

-- gates, and the bits of their result
pub record Block : Type 0 where
  pub gates : List GateKind
  pub bits : List Literal

-- the quotient, negated where one sign is minus and the other is not
abbrev pub signed_quotient : ℕ → List Literal → List Literal → Block
signed_quotient g a b =
    let m = magnitudes g a b in
    let h = g + length m.gates in
    let x = h + length (neg_gates h m.quotient) in
    record {
      gates = m.gates ++ (neg_gates h m.quotient ++ Xor (sign_of a) (sign_of b) ∷ mux_gates (positive_of x) (neg_bits h m.quotient) m.quotient);
      bits = fresh_bits (suc x) (length m.quotient);
    }

-- the remainder, negated where the dividend is minus
abbrev pub signed_remainder : ℕ → List Literal → List Literal → Block
signed_remainder g a b =
    let m = magnitudes g a b in
    let h = g + length m.gates in
    record {
      gates = m.gates ++ signed_gates h (sign_of a) m.remainder;
      bits = signed_bits h m.remainder;
    }

-- the remainder with the dividend's sign, and the divisor more where the signs differ and it is not 0
abbrev pub signed_modulus : ℕ → List Literal → List Literal → Block
signed_modulus g a b =
    let m = magnitudes g a b in
    let u = m.remainder in
    let h = g + length m.gates in
    let x = h + length (signed_gates h (sign_of a) u) in
    let z = equal_gates (suc x) true_literal u (replicate (length u) false_literal) in
    let y = suc x + length z in
    record {
      gates =
          m.gates
          ++ (signed_gates h (sign_of a) u
          ++ Xor (sign_of a) (sign_of b)
          ∷ (z
          ++ And (positive_of x) (negated (equal_bit (suc x) true_literal u (replicate (length u) false_literal)))
          ∷ sum_gates (suc y) (signed_bits h u) b (positive_of y)));
      bits = sum_bits (suc y) (signed_bits h u) b;
    }

abbrev pub sdiv_gates : ℕ → List Literal → List Literal → List GateKind
sdiv_gates g a b = (signed_quotient g a b).gates

abbrev pub sdiv_bits : ℕ → List Literal → List Literal → List Literal
sdiv_bits g a b = (signed_quotient g a b).bits

abbrev pub srem_gates : ℕ → List Literal → List Literal → List GateKind
srem_gates g a b = (signed_remainder g a b).gates

abbrev pub srem_bits : ℕ → List Literal → List Literal → List Literal
srem_bits g a b = (signed_remainder g a b).bits

abbrev pub smod_gates : ℕ → List Literal → List Literal → List GateKind
smod_gates g a b = (signed_modulus g a b).gates

abbrev pub smod_bits : ℕ → List Literal → List Literal → List Literal
smod_bits g a b = (signed_modulus g a b).bits
