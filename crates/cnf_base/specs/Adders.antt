-- The ripple-carry adder: its gates, its sum and its carry, from the next variable on.
use Rattle.std.specs.Prelude.{ℕ, suc, List, [], ◌∷◌}
use Rattle.cnf_base.specs.Literals.{Literal, positive_of}
use Rattle.cnf_base.specs.declared.gate.GateKind.{GateKind}
use Rattle.cnf_base.specs.declared.gate.GateKind.TheVariants.{Xor, Ite}

-- the gates, three a place
abbrev pub add_gates : ℕ → List Literal → List Literal → Literal → List GateKind
add_gates g [] bs carry = []
add_gates g (a ∷ as') [] carry = []
add_gates g (a ∷ as') (b ∷ bs) carry =
    Xor a b
    ∷ Xor (positive_of g) carry
    ∷ Ite (positive_of g) carry a
    ∷ add_gates (suc (suc (suc g))) as' bs (positive_of (suc (suc g)))

-- the bits of the sum, the second gate of each place
abbrev pub add_bits : ℕ → List Literal → List Literal → List Literal
add_bits g [] bs = []
add_bits g (a ∷ as') [] = []
add_bits g (a ∷ as') (b ∷ bs) = positive_of (suc g) ∷ add_bits (suc (suc (suc g))) as' bs

-- the last carry, the third gate of the last place
abbrev pub add_carry : ℕ → List Literal → List Literal → Literal → Literal
add_carry g [] bs carry = carry
add_carry g (a ∷ as') [] carry = carry
add_carry g (a ∷ as') (b ∷ bs) carry = add_carry (suc (suc (suc g))) as' bs (positive_of (suc (suc g)))
