-- Small circuits, gate by gate.
use Rattle.std.proofs.Common.{◌≡◌, [], ◌∷◌, refl}
use Rattle.cnf_base.specs.Literals.{positive_of, negative_of, true_literal, false_literal}
use Rattle.cnf_base.specs.declared.gate.GateKind.TheVariants.{And, Xor, Ite}
use Rattle.circ_muldiv.specs.Products.{mul_gates, mul_bits}
use Rattle.circ_muldiv.specs.Quotients.{divide_gates, quotient_bits, remainder_bits}

-- the product of the words of variables 2, 3 and 4, 5
product_of_two_bits : mul_gates 6 (positive_of 2 ∷ positive_of 3 ∷ []) (positive_of 4 ∷ positive_of 5 ∷ []) ≡ And (positive_of 2) (positive_of 4) ∷ And (positive_of 3) (positive_of 4) ∷ And (positive_of 2) (positive_of 5) ∷ Xor (positive_of 7) (positive_of 8) ∷ Xor (positive_of 9) false_literal ∷ Ite (positive_of 9) false_literal (positive_of 7) ∷ []
product_of_two_bits = refl

product_bits_of_two_bits : mul_bits 6 (positive_of 2 ∷ positive_of 3 ∷ []) (positive_of 4 ∷ positive_of 5 ∷ []) ≡ positive_of 6 ∷ positive_of 10 ∷ []
product_bits_of_two_bits = refl

-- the division of the words of variables 2 and 3
division_of_one_bit : divide_gates 4 (positive_of 2 ∷ []) (positive_of 3 ∷ []) ≡ Xor (positive_of 2) (negative_of 3) ∷ Xor (positive_of 4) true_literal ∷ Ite (positive_of 4) true_literal (positive_of 2) ∷ Xor false_literal true_literal ∷ Xor (positive_of 7) (positive_of 6) ∷ Ite (positive_of 7) (positive_of 6) false_literal ∷ Ite (positive_of 9) (positive_of 5) (positive_of 2) ∷ Ite (positive_of 9) (positive_of 8) false_literal ∷ []
division_of_one_bit = refl

quotient_of_one_bit : quotient_bits 4 (positive_of 2 ∷ []) (positive_of 3 ∷ []) ≡ positive_of 9 ∷ []
quotient_of_one_bit = refl

remainder_of_one_bit : remainder_bits 4 (positive_of 2 ∷ []) (positive_of 3 ∷ []) ≡ positive_of 10 ∷ []
remainder_of_one_bit = refl
