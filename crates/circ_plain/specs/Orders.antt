-- Comparison from the lowest place up, from the next variable g on.
use Rattle.std.specs.Prelude.{ℕ, suc, ◌-◌, List, [], ◌∷◌, ◌++◌, length, take}
use Rattle.cnf_base.specs.Literals.{Literal, positive_of, negated, false_literal}
use Rattle.cnf_base.specs.declared.gate.GateKind.{GateKind}
use Rattle.cnf_base.specs.declared.gate.GateKind.TheVariants.{Xor, Ite}
use Rattle.circ_plain.specs.Signs.{sign_of}

-- two gates a place: whether the bits differ, and where they do the second one, else what the places below say
abbrev pub below_gates : ℕ → Literal → List Literal → List Literal → List GateKind
below_gates g l [] bs = []
below_gates g l (a ∷ as') [] = []
below_gates g l (a ∷ as') (b ∷ bs) =
    Xor a b ∷ Ite (positive_of g) b l ∷ below_gates (suc (suc g)) (positive_of (suc g)) as' bs

abbrev pub below_bit : ℕ → Literal → List Literal → List Literal → Literal
below_bit g l [] bs = l
below_bit g l (a ∷ as') [] = l
below_bit g l (a ∷ as') (b ∷ bs) = below_bit (suc (suc g)) (positive_of (suc g)) as' bs

-- the first number is below the second
abbrev pub ult_gates : ℕ → List Literal → List Literal → List GateKind
ult_gates g a b = below_gates g false_literal a b

abbrev pub ult_bit : ℕ → List Literal → List Literal → Literal
ult_bit g a b = below_bit g false_literal a b

-- the second number is not below the first
abbrev pub ule_gates : ℕ → List Literal → List Literal → List GateKind
ule_gates g a b = ult_gates g b a

abbrev pub ule_bit : ℕ → List Literal → List Literal → Literal
ule_bit g a b = negated (ult_bit g b a)

-- a row of bits with another sign
abbrev pub with_sign : List Literal → Literal → List Literal
with_sign a s = take (length a - 1) a ++ s ∷ []

-- signed numbers stand in the order of their bits once their signs have changed places
abbrev pub slt_gates : ℕ → List Literal → List Literal → List GateKind
slt_gates g a b = ult_gates g (with_sign a (sign_of b)) (with_sign b (sign_of a))

abbrev pub slt_bit : ℕ → List Literal → List Literal → Literal
slt_bit g a b = ult_bit g (with_sign a (sign_of b)) (with_sign b (sign_of a))

abbrev pub sle_gates : ℕ → List Literal → List Literal → List GateKind
sle_gates g a b = slt_gates g b a

abbrev pub sle_bit : ℕ → List Literal → List Literal → Literal
sle_bit g a b = negated (slt_bit g b a)
