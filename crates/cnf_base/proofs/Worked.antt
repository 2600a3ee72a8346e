-- Worked rows of the definitions, computed.
use Rattle.std.proofs.Common.{◌≡◌, true, [], ◌∷◌, refl}
use Rattle.std.specs.Prelude.{◌==◌}
use Rattle.cnf_base.specs.Literals.{positive_of, negative_of, true_literal, false_literal, code_of}
use Rattle.cnf_base.specs.Clauses.{number}
use Rattle.cnf_base.specs.declared.gate.GateKind.TheVariants.{And, Xor, Ite}
use Rattle.cnf_base.specs.Gates.{gate_clauses}
use Rattle.cnf_base.specs.Adders.{add_gates, add_bits, add_carry}
use Rattle.cnf_base.specs.Choices.{equal_gates}
use Rattle.cnf_base.specs.Assignments.{fresh_bits, with_gates, with_number}

two_codes : code_of (negative_of 7) ≡ 15
two_codes = refl

-- variables 2 and 3 are the number 2, the lowest bit first
number_of_two : number (with_number (λ x. true) 2 2 2) (positive_of 2 ∷ positive_of 3 ∷ []) ≡ 2
number_of_two = refl

choice_clauses : gate_clauses 5 (Ite (positive_of 2) (positive_of 3) (negative_of 4)) ≡
    (negative_of 5 ∷ negative_of 2 ∷ positive_of 3 ∷ []) ∷ (positive_of 5 ∷ negative_of 2 ∷ negative_of 3 ∷ [])
    ∷ (negative_of 5 ∷ positive_of 2 ∷ negative_of 4 ∷ []) ∷ (positive_of 5 ∷ positive_of 2 ∷ positive_of 4 ∷ []) ∷ []
choice_clauses = refl

one_place_of_a_sum : add_gates 4 (positive_of 2 ∷ []) (positive_of 3 ∷ []) true_literal ≡
    Xor (positive_of 2) (positive_of 3) ∷ Xor (positive_of 4) true_literal ∷ Ite (positive_of 4) true_literal (positive_of 2) ∷ []
one_place_of_a_sum = refl

bits_of_a_sum : add_bits 6 (fresh_bits 2 2) (fresh_bits 4 2) ≡ positive_of 7 ∷ positive_of 10 ∷ []
bits_of_a_sum = refl

carry_of_a_sum : add_carry 6 (fresh_bits 2 2) (fresh_bits 4 2) false_literal ≡ positive_of 11
carry_of_a_sum = refl

one_place_of_an_equality : equal_gates 4 true_literal (positive_of 2 ∷ []) (positive_of 3 ∷ []) ≡ Xor (positive_of 2) (positive_of 3) ∷ And true_literal (negative_of 4) ∷ []
one_place_of_an_equality = refl

-- where variable 2 is true and 3 is false, their exclusive or in variable 4 is true
value_of_a_gate : with_gates (λ x. x == 2) 4 (Xor (positive_of 2) (positive_of 3) ∷ []) 4 ≡ true
value_of_a_gate = refl
