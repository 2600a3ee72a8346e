-- The circuits that operators have: gates, and the bits of the result, the lowest first.
use Rattle.std.specs.Prelude.{ℕ, zero, suc, ◌+◌, ◌-◌, ◌/◌, ◌%◌, ◌==◌, if◌then◌else◌, Bool, true, false, List, [], ◌∷◌, ◌++◌, Option, Some, None, map, length, take, drop}
use Rattle.cnf_base.specs.Literals.{Literal, negated, true_literal, false_literal}
use Rattle.cnf_base.specs.declared.gate.GateKind.{GateKind}
use Rattle.cnf_base.specs.declared.gate.GateKind.TheVariants.{And as AndGate, Xor as XorGate}
use Rattle.bit_blast.specs.declared.rows.Connective.{Connective}
use Rattle.bit_blast.specs.declared.rows.Connective.TheVariants.{Both, Neither, ButNot, Differ}
use Rattle.cnf_base.specs.Assignments.{fresh_bits}
use Rattle.cnf_base.specs.Adders.{add_gates, add_bits}
use Rattle.circ_plain.specs.Signs.{neg_gates, neg_bits}
use Rattle.circ_plain.specs.Orders.{ult_gates, ult_bit, ule_gates, ule_bit, slt_gates, slt_bit, sle_gates, sle_bit}
use Rattle.circ_muldiv.specs.Products.{mul_gates, mul_bits}
use Rattle.circ_muldiv.specs.Quotients.{divide_gates, quotient_bits, remainder_bits}
use Rattle.circ_muldiv.specs.Signed.{sdiv_gates, sdiv_bits, srem_gates, srem_bits, smod_gates, smod_bits}
use Rattle.circ_plain.specs.Shifts.{shl_gates, shl_bits, lshr_gates, lshr_bits, ashr_gates, ashr_bits}
use Rattle.cnf_base.specs.Choices.{mux_gates, equal_gates, equal_bit}
use Rattle.circ_muldiv.specs.Signed.{Block}

-- What an operator makes, from the next variable on, of the bits of its arguments, which it takes one after the other.
-- It lacks a circuit where its term is a leaf, or where the arguments are no bits that it takes.
pub data CircuitOf : Type 0 where
  Makes : (make : ℕ → Block) → CircuitOf
  Takes : (next : List Literal → CircuitOf) → CircuitOf
  Lacks : CircuitOf

-- the block of a circuit from the variable g on, over arguments of these bits
abbrev pub built : CircuitOf → ℕ → List (List Literal) → Option Block
built (Makes make) g [] = Some (make g)
built (Makes make) g (a ∷ as') = None
built (Takes next) g [] = None
built (Takes next) g (a ∷ as') = built (next a) g as'
built Lacks g as' = None

-- ---- shapes of circuits

-- bits without a gate
abbrev pub wires : List Literal → ℕ → Block
wires bits g = record { gates = []; bits = bits }

abbrev pub one : (List Literal → ℕ → Block) → CircuitOf
one f = Takes λ a. Makes (f a)

-- two rows of equally many bits
abbrev pub alike : List Literal → List Literal → (ℕ → Block) → CircuitOf
alike a b f = if length a == length b then Makes f else Lacks

abbrev pub two : (List Literal → List Literal → ℕ → Block) → CircuitOf
two f = Takes λ a. Takes λ b. alike a b (f a b)

-- two rows of equally many bits, and of one at least
abbrev pub two_some : (List Literal → List Literal → ℕ → Block) → CircuitOf
two_some f = Takes λ a. Takes λ b. if length a == 0 then Lacks else alike a b (f a b)

-- the gate of a connective: both are true, neither is, the first is and the second is not, they differ
abbrev pub gate_of : Connective → Literal → Literal → GateKind
gate_of Both a b = AndGate a b
gate_of Neither a b = AndGate (negated a) (negated b)
gate_of ButNot a b = AndGate a (negated b)
gate_of Differ a b = XorGate a b

-- a gate for each place
abbrev pub each_gate : Connective → List Literal → List Literal → List GateKind
each_gate k [] bs = []
each_gate k (a ∷ as') [] = []
each_gate k (a ∷ as') (b ∷ bs) = gate_of k a b ∷ each_gate k as' bs

-- a row of literals, or their opposites
abbrev pub signed : Bool → List Literal → List Literal
signed true row = row
signed false row = map negated row

-- bit by bit, each the literal of its gate, or the opposite
abbrev pub by_gate : Connective → Bool → List Literal → List Literal → ℕ → Block
by_gate k positive a b g = record { gates = each_gate k a b; bits = signed positive (fresh_bits g (length a)) }

abbrev pub bitwise : Connective → Bool → CircuitOf
bitwise k positive = two (by_gate k positive)

-- ---- circuits

abbrev pub sum : Literal → List Literal → List Literal → ℕ → Block
sum carry a b g = record { gates = add_gates g a b carry; bits = add_bits g a b }

abbrev pub difference : List Literal → List Literal → ℕ → Block
difference a b = sum true_literal a (map negated b)

abbrev pub equality : List Literal → List Literal → ℕ → Block
equality a b g = record { gates = equal_gates g true_literal a b; bits = equal_bit g true_literal a b ∷ [] }

abbrev pub negation : List Literal → ℕ → Block
negation a g = record { gates = neg_gates g a; bits = neg_bits g a }

-- the orders of unsigned and of signed numbers
abbrev pub below : List Literal → List Literal → ℕ → Block
below a b g = record { gates = ult_gates g a b; bits = ult_bit g a b ∷ [] }

abbrev pub not_above : List Literal → List Literal → ℕ → Block
not_above a b g = record { gates = ule_gates g a b; bits = ule_bit g a b ∷ [] }

abbrev pub signed_below : List Literal → List Literal → ℕ → Block
signed_below a b g = record { gates = slt_gates g a b; bits = slt_bit g a b ∷ [] }

abbrev pub signed_not_above : List Literal → List Literal → ℕ → Block
signed_not_above a b g = record { gates = sle_gates g a b; bits = sle_bit g a b ∷ [] }

-- shifts by a row
abbrev pub shift_up : List Literal → List Literal → ℕ → Block
shift_up a t g = record { gates = shl_gates g a t; bits = shl_bits g a t }

abbrev pub shift_down : List Literal → List Literal → ℕ → Block
shift_down a t g = record { gates = lshr_gates g a t; bits = lshr_bits g a t }

abbrev pub signed_shift_down : List Literal → List Literal → ℕ → Block
signed_shift_down a t g = record { gates = ashr_gates g a t; bits = ashr_bits g a t }

-- products, quotients and remainders
abbrev pub product : List Literal → List Literal → ℕ → Block
product a b g = record { gates = mul_gates g a b; bits = mul_bits g a b }

abbrev pub quotient : List Literal → List Literal → ℕ → Block
quotient a b g = record { gates = divide_gates g a b; bits = quotient_bits g a b }

abbrev pub remainder : List Literal → List Literal → ℕ → Block
remainder a b g = record { gates = divide_gates g a b; bits = remainder_bits g a b }

abbrev pub signed_quotient : List Literal → List Literal → ℕ → Block
signed_quotient a b g = record { gates = sdiv_gates g a b; bits = sdiv_bits g a b }

abbrev pub signed_remainder : List Literal → List Literal → ℕ → Block
signed_remainder a b g = record { gates = srem_gates g a b; bits = srem_bits g a b }

abbrev pub signed_modulus : List Literal → List Literal → ℕ → Block
signed_modulus a b g = record { gates = smod_gates g a b; bits = smod_bits g a b }

-- the choice between two rows by the one bit of a condition
abbrev pub choice_by : List Literal → List Literal → List Literal → CircuitOf
choice_by [] a b = Lacks
choice_by (c ∷ []) a b = alike a b (λ g. record { gates = mux_gates c a b; bits = fresh_bits g (length a) })
choice_by (c ∷ d ∷ cs) a b = Lacks

abbrev pub choice : CircuitOf
choice = Takes λ c. Takes λ a. Takes λ b. choice_by c a b

-- the n lowest bits of a number
abbrev pub literal_bits : ℕ → ℕ → List Literal
literal_bits zero x = []
literal_bits (suc n) x = (if x % 2 == 1 then true_literal else false_literal) ∷ literal_bits n (x / 2)

-- the bits moved n places up, those at the top to the bottom
abbrev pub rotated : ℕ → List Literal → List Literal
rotated n a = drop (length a - n) a ++ take (length a - n) a

abbrev pub repeated : ℕ → List Literal → List Literal
repeated zero a = []
repeated (suc n) a = a ++ repeated n a

-- the bits moved so many places up, modulo their number
abbrev pub turned_left : ℕ → List Literal → List Literal
turned_left n a = rotated (n % length a) a

abbrev pub turned_right : ℕ → List Literal → List Literal
turned_right n a = rotated (length a - n % length a) a

-- the bits from j to i
abbrev pub extracted : ℕ → ℕ → List Literal → List Literal
extracted i j a = take (i + 1 - j) (drop j a)
