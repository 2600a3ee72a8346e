-- Negation and absolute value in two's complement, from the next variable g on.
use Rattle.std.specs.Prelude.{ℕ, ◌+◌, List, [], ◌∷◌, ◌++◌, length, map, replicate}
use Rattle.cnf_base.specs.Literals.{Literal, negated, true_literal, false_literal}
use Rattle.cnf_base.specs.declared.gate.GateKind.{GateKind}
use Rattle.cnf_base.specs.Assignments.{fresh_bits}
use Rattle.cnf_base.specs.Adders.{add_gates, add_bits}
use Rattle.cnf_base.specs.Choices.{mux_gates}

-- the sign of a row of bits, its last one
abbrev pub sign_of : List Literal → Literal
sign_of [] = false_literal
sign_of (l ∷ []) = l
sign_of (l ∷ m ∷ ls) = sign_of (m ∷ ls)

-- the complement of the bits, and one more: an adder with no second row and a carry
abbrev pub neg_gates : ℕ → List Literal → List GateKind
neg_gates g a = add_gates g (map negated a) (replicate (length a) false_literal) true_literal

abbrev pub neg_bits : ℕ → List Literal → List Literal
neg_bits g a = add_bits g (map negated a) (replicate (length a) false_literal)

-- the negation where the literal is true, else the bits
abbrev pub signed_gates : ℕ → Literal → List Literal → List GateKind
signed_gates g c a = neg_gates g a ++ mux_gates c (neg_bits g a) a

abbrev pub signed_bits : ℕ → List Literal → List Literal
signed_bits g a = fresh_bits (g + length (neg_gates g a)) (length a)

-- the negation where the sign is true, else the bits
abbrev pub abs_gates : ℕ → List Literal → List GateKind
abs_gates g a = signed_gates g (sign_of a) a
