-- The circuit of a quotient and a remainder: restoring long division in binary, from the highest place of the dividend down.
use Rattle.std.specs.Prelude.{ℕ, ◌+◌, List, [], ◌∷◌, ◌++◌, length, map, take, replicate}
use Rattle.cnf_base.specs.Literals.{Literal, negated, true_literal, false_literal}
use Rattle.cnf_base.specs.declared.gate.GateKind.{GateKind}
use Rattle.cnf_base.specs.Adders.{add_gates, add_bits, add_carry}
use Rattle.cnf_base.specs.Assignments.{fresh_bits}
use Rattle.cnf_base.specs.Choices.{mux_gates}

-- the remainder so far, one place up, with the next bit of the dividend below it
abbrev pub shifted : Literal → List Literal → List Literal → List Literal
shifted a r b = a ∷ take (length b) r

-- the divisor's complement, one place longer
abbrev pub complement_of : List Literal → List Literal
complement_of b = map negated b ++ true_literal ∷ []

-- one place: the divisor is taken away, and where that leaves a carry, the difference is kept
abbrev pub difference_gates : ℕ → Literal → List Literal → List Literal → List GateKind
difference_gates g a r b = add_gates g (shifted a r b) (complement_of b) true_literal

abbrev pub place_bit : ℕ → Literal → List Literal → List Literal → Literal
place_bit g a r b = add_carry g (shifted a r b) (complement_of b) true_literal

abbrev pub place_gates : ℕ → Literal → List Literal → List Literal → List GateKind
place_gates g a r b =
    difference_gates g a r b ++ mux_gates (place_bit g a r b) (add_bits g (shifted a r b) (complement_of b)) (shifted a r b)

abbrev pub place_rest : ℕ → Literal → List Literal → List Literal → List Literal
place_rest g a r b = fresh_bits (g + length (difference_gates g a r b)) (length b + 1)

-- a division in its course: its gates so far, the bits of the quotient so far, and what is left of the dividend, one bit longer than the divisor
pub record Division : Type 0 where
  pub gates : List GateKind
  pub quotient : List Literal
  pub rest : List Literal

-- one place more, below the places that are done
abbrev pub with_place : ℕ → Division → Literal → List Literal → Division
with_place g d a b =
    let h = g + length d.gates in
    record {
      gates = d.gates ++ place_gates h a d.rest b;
      quotient = place_bit h a d.rest b ∷ d.quotient;
      rest = place_rest h a d.rest b;
    }

-- the division of these bits, whose variables begin at g
abbrev pub divided : ℕ → List Literal → List Literal → Division
divided g [] b = record { gates = []; quotient = []; rest = replicate (length b + 1) false_literal }
divided g (a ∷ as') b = with_place g (divided g as' b) a b

abbrev pub divide_gates : ℕ → List Literal → List Literal → List GateKind
divide_gates g a b = (divided g a b).gates

abbrev pub quotient_bits : ℕ → List Literal → List Literal → List Literal
quotient_bits g a b = (divided g a b).quotient

abbrev pub remainder_bits : ℕ → List Literal → List Literal → List Literal
remainder_bits g a b = take (length b) (divided g a b).rest
