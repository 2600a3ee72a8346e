-- Which circuit each operator has, and the block of a term: its gates, and the bits of its result, the lowest first.
use Rattle.std.specs.Prelude.{◌≡◌, ℕ, ◌≤◌, Bool, true, false, List, [], ◌∷◌, ◌++◌, Option, Some, None, map, length, replicate}
use Rattle.cnf_base.specs.Literals.{Literal, negated, true_literal, false_literal}
use Rattle.bit_blast.specs.declared.rows.Connective.{Connective}
use Rattle.bit_blast.specs.declared.rows.Connective.TheVariants.{Both, Neither, ButNot, Differ}
use Rattle.circ_plain.specs.Signs.{sign_of}
use Rattle.std.specs.List.{AllByRecursion}
use Rattle.cnf_base.specs.Circuits.{CircuitValue, Gains}
use Rattle.smt_terms.specs.Bits.{TermBits}
use Rattle.smt_terms.specs.declared.operator.Operator.{Operator}
use Rattle.smt_terms.specs.declared.operator.Operator.TheVariants as plain
use Rattle.smt_terms.specs.declared.node.Op.{Op}
use Rattle.smt_terms.specs.declared.node.Op.TheVariants.{Plain, Word, Extract, ZeroExtend, SignExtend, RotateLeft, RotateRight, Repeat, ConstantArray, Constant, Apply, Param}
use Rattle.smt_terms.specs.declared.node.Node.{Node}
use Rattle.bit_blast.specs.Circuits.{CircuitOf, built, wires, one, two, two_some, bitwise, sum, difference, equality, negation, below, not_above, signed_below, signed_not_above, shift_up, shift_down, signed_shift_down, product, quotient, remainder, signed_quotient, signed_remainder, signed_modulus, choice, literal_bits, repeated, turned_left, turned_right, extracted, Makes, Takes, Lacks}
pub use Rattle.circ_muldiv.specs.Signed.{Block}

-- the connective of an operator that works bit by bit, and whether its gates' literals are the bits or their opposites
abbrev pub connective_of : Operator → Option (Connective × Bool)
connective_of plain.True = None
connective_of plain.False = None
connective_of plain.Not = None
connective_of plain.And = Some (Both, true)
connective_of plain.Or = Some (Neither, false)
connective_of plain.Xor = Some (Differ, true)
connective_of plain.Implies = Some (ButNot, false)
connective_of plain.Ite = None
connective_of plain.Equal = None
connective_of plain.Bvnot = None
connective_of plain.Bvneg = None
connective_of plain.Bvadd = None
connective_of plain.Bvsub = None
connective_of plain.Bvmul = None
connective_of plain.Bvand = Some (Both, true)
connective_of plain.Bvor = Some (Neither, false)
connective_of plain.Bvxor = Some (Differ, true)
connective_of plain.Bvnand = Some (Both, false)
connective_of plain.Bvnor = Some (Neither, true)
connective_of plain.Bvxnor = Some (Differ, false)
connective_of plain.Bvudiv = None
connective_of plain.Bvurem = None
connective_of plain.Bvsdiv = None
connective_of plain.Bvsrem = None
connective_of plain.Bvsmod = None
connective_of plain.Bvshl = None
connective_of plain.Bvlshr = None
connective_of plain.Bvashr = None
connective_of plain.Bvult = None
connective_of plain.Bvule = None
connective_of plain.Bvugt = None
connective_of plain.Bvuge = None
connective_of plain.Bvslt = None
connective_of plain.Bvsle = None
connective_of plain.Bvsgt = None
connective_of plain.Bvsge = None
connective_of plain.Bvcomp = None
connective_of plain.Concat = None
connective_of plain.Select = None
connective_of plain.Store = None
connective_of plain.Witness = None

-- the circuit by the connective, or else another one
abbrev pub by_connective : Option (Connective × Bool) → CircuitOf → CircuitOf
by_connective None c = c
by_connective (Some k) c = bitwise k.0 k.1

-- ---- the table

abbrev pub operator_circuit : Operator → CircuitOf
operator_circuit plain.True = Makes (wires (true_literal ∷ []))
operator_circuit plain.False = Makes (wires (false_literal ∷ []))
operator_circuit plain.Not = one λ a. wires (map negated a)
operator_circuit plain.And = bitwise Both true
operator_circuit plain.Or = bitwise Neither false
operator_circuit plain.Xor = bitwise Differ true
operator_circuit plain.Implies = bitwise ButNot false
operator_circuit plain.Ite = choice
operator_circuit plain.Equal = two equality
operator_circuit plain.Bvnot = one λ a. wires (map negated a)
operator_circuit plain.Bvneg = one negation
operator_circuit plain.Bvadd = two (sum false_literal)
operator_circuit plain.Bvsub = two difference
operator_circuit plain.Bvmul = two_some product
operator_circuit plain.Bvand = bitwise Both true
operator_circuit plain.Bvor = bitwise Neither false
operator_circuit plain.Bvxor = bitwise Differ true
operator_circuit plain.Bvnand = bitwise Both false
operator_circuit plain.Bvnor = bitwise Neither true
operator_circuit plain.Bvxnor = bitwise Differ false
operator_circuit plain.Bvudiv = two_some quotient
operator_circuit plain.Bvurem = two_some remainder
operator_circuit plain.Bvsdiv = two_some signed_quotient
operator_circuit plain.Bvsrem = two_some signed_remainder
operator_circuit plain.Bvsmod = two_some signed_modulus
operator_circuit plain.Bvshl = two shift_up
operator_circuit plain.Bvlshr = two shift_down
operator_circuit plain.Bvashr = two_some signed_shift_down
operator_circuit plain.Bvult = two below
operator_circuit plain.Bvule = two not_above
operator_circuit plain.Bvugt = two λ a b. below b a
operator_circuit plain.Bvuge = two λ a b. not_above b a
operator_circuit plain.Bvslt = two_some signed_below
operator_circuit plain.Bvsle = two_some signed_not_above
operator_circuit plain.Bvsgt = two_some λ a b. signed_below b a
operator_circuit plain.Bvsge = two_some λ a b. signed_not_above b a
operator_circuit plain.Bvcomp = two equality
operator_circuit plain.Concat = Takes λ a. Takes λ b. Makes (wires (b ++ a))
operator_circuit plain.Select = Lacks
operator_circuit plain.Store = Lacks
operator_circuit plain.Witness = Lacks

abbrev pub circuit_of : Op → CircuitOf
circuit_of (Plain o) = operator_circuit o
circuit_of (Word n x) = Makes (wires (literal_bits n x))
circuit_of (Extract i j) = one λ a. wires (extracted i j a)
circuit_of (ZeroExtend i) = one λ a. wires (a ++ replicate i false_literal)
circuit_of (SignExtend i) = one λ a. wires (a ++ replicate i (sign_of a))
circuit_of (RotateLeft i) = one λ a. wires (turned_left i a)
circuit_of (RotateRight i) = one λ a. wires (turned_right i a)
circuit_of (Repeat i) = one λ a. wires (repeated i a)
circuit_of (ConstantArray k) = Lacks
circuit_of (Constant d s) = Lacks
circuit_of (Apply d s) = Lacks
circuit_of (Param k s) = Lacks

-- the operator reads the highest bit of its two rows as a sign
abbrev pub IsSigned : Operator → Type 0
IsSigned plain.True = ⊥
IsSigned plain.False = ⊥
IsSigned plain.Not = ⊥
IsSigned plain.And = ⊥
IsSigned plain.Or = ⊥
IsSigned plain.Xor = ⊥
IsSigned plain.Implies = ⊥
IsSigned plain.Ite = ⊥
IsSigned plain.Equal = ⊥
IsSigned plain.Bvnot = ⊥
IsSigned plain.Bvneg = ⊥
IsSigned plain.Bvadd = ⊥
IsSigned plain.Bvsub = ⊥
IsSigned plain.Bvmul = ⊥
IsSigned plain.Bvand = ⊥
IsSigned plain.Bvor = ⊥
IsSigned plain.Bvxor = ⊥
IsSigned plain.Bvnand = ⊥
IsSigned plain.Bvnor = ⊥
IsSigned plain.Bvxnor = ⊥
IsSigned plain.Bvudiv = ⊥
IsSigned plain.Bvurem = ⊥
IsSigned plain.Bvsdiv = ⊥
IsSigned plain.Bvsrem = ⊥
IsSigned plain.Bvsmod = ⊥
IsSigned plain.Bvshl = ⊥
IsSigned plain.Bvlshr = ⊥
IsSigned plain.Bvashr = Unit {0}
IsSigned plain.Bvult = ⊥
IsSigned plain.Bvule = ⊥
IsSigned plain.Bvugt = ⊥
IsSigned plain.Bvuge = ⊥
IsSigned plain.Bvslt = Unit {0}
IsSigned plain.Bvsle = Unit {0}
IsSigned plain.Bvsgt = Unit {0}
IsSigned plain.Bvsge = Unit {0}
IsSigned plain.Bvcomp = ⊥
IsSigned plain.Concat = ⊥
IsSigned plain.Select = ⊥
IsSigned plain.Store = ⊥
IsSigned plain.Witness = ⊥

-- the operator is a product, a quotient or a remainder
abbrev pub IsProduct : Operator → Type 0
IsProduct plain.True = ⊥
IsProduct plain.False = ⊥
IsProduct plain.Not = ⊥
IsProduct plain.And = ⊥
IsProduct plain.Or = ⊥
IsProduct plain.Xor = ⊥
IsProduct plain.Implies = ⊥
IsProduct plain.Ite = ⊥
IsProduct plain.Equal = ⊥
IsProduct plain.Bvnot = ⊥
IsProduct plain.Bvneg = ⊥
IsProduct plain.Bvadd = ⊥
IsProduct plain.Bvsub = ⊥
IsProduct plain.Bvmul = Unit {0}
IsProduct plain.Bvand = ⊥
IsProduct plain.Bvor = ⊥
IsProduct plain.Bvxor = ⊥
IsProduct plain.Bvnand = ⊥
IsProduct plain.Bvnor = ⊥
IsProduct plain.Bvxnor = ⊥
IsProduct plain.Bvudiv = Unit {0}
IsProduct plain.Bvurem = Unit {0}
IsProduct plain.Bvsdiv = Unit {0}
IsProduct plain.Bvsrem = Unit {0}
IsProduct plain.Bvsmod = Unit {0}
IsProduct plain.Bvshl = ⊥
IsProduct plain.Bvlshr = ⊥
IsProduct plain.Bvashr = ⊥
IsProduct plain.Bvult = ⊥
IsProduct plain.Bvule = ⊥
IsProduct plain.Bvugt = ⊥
IsProduct plain.Bvuge = ⊥
IsProduct plain.Bvslt = ⊥
IsProduct plain.Bvsle = ⊥
IsProduct plain.Bvsgt = ⊥
IsProduct plain.Bvsge = ⊥
IsProduct plain.Bvcomp = ⊥
IsProduct plain.Concat = ⊥
IsProduct plain.Select = ⊥
IsProduct plain.Store = ⊥
IsProduct plain.Witness = ⊥

-- ---- blocks of terms

-- the bits of the first, before those of the others
abbrev pub with_first : Option (List Literal) → Option (List (List Literal)) → Option (List (List Literal))
with_first (Some b) (Some bs) = Some (b ∷ bs)
with_first (Some b) None = None
with_first None bs = None

-- the bits of all these terms
abbrev pub all_bits : (ℕ → Option (List Literal)) → List ℕ → Option (List (List Literal))
all_bits bits [] = Some []
all_bits bits (t ∷ ts) = with_first (bits t) (all_bits bits ts)

abbrev pub block_over : Op → ℕ → Option (List (List Literal)) → Option Block
block_over op g None = None
block_over op g (Some bs) = built (circuit_of op) g bs

-- the block of a node from the variable g on, if each argument has bits and its operator has a circuit over them
abbrev pub block_of : ℕ → (ℕ → Option (List Literal)) → Node → Option Block
block_of g bits n = block_over n.op g (all_bits bits n.args)

-- ---- what a call gives

-- no term has more than 128 bits
abbrev pub EachShort : List TermBits → Type 0
EachShort = AllByRecursion (λ e. length e.bits ≤ 128)

-- the bits are the block's, and its gates are what the circuit gained
abbrev pub IsBuilt : Option Block → List Literal → CircuitValue → CircuitValue → Type 0
IsBuilt None bits old new = ⊥
IsBuilt (Some b) bits old new = (bits ≡ b.bits) × Gains old new b.gates

-- there is no block, and the circuit is as before
abbrev pub HasNone : Option Block → CircuitValue → CircuitValue → Type 0
HasNone block old new = (block ≡ None) × (new ≡ old)
