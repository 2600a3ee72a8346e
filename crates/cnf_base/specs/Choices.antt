-- The choice between two rows of bits, and their equality, from the next variable on.
use Rattle.std.specs.Prelude.{ℕ, suc, List, [], ◌∷◌}
use Rattle.cnf_base.specs.Literals.{Literal, positive_of, negative_of}
use Rattle.cnf_base.specs.declared.gate.GateKind.{GateKind}
use Rattle.cnf_base.specs.declared.gate.GateKind.TheVariants.{And, Xor, Ite}

-- one gate a place: the first row's bit where c is true, else the second row's
abbrev pub mux_gates : Literal → List Literal → List Literal → List GateKind
mux_gates c [] bs = []
mux_gates c (a ∷ as') [] = []
mux_gates c (a ∷ as') (b ∷ bs) = Ite c a b ∷ mux_gates c as' bs

-- two gates a place: whether the bits differ, and whether all places so far are equal and they do not
abbrev pub equal_gates : ℕ → Literal → List Literal → List Literal → List GateKind
equal_gates g e [] bs = []
equal_gates g e (a ∷ as') [] = []
equal_gates g e (a ∷ as') (b ∷ bs) =
    Xor a b ∷ And e (negative_of g) ∷ equal_gates (suc (suc g)) (positive_of (suc g)) as' bs

-- the literal of the last place
abbrev pub equal_bit : ℕ → Literal → List Literal → List Literal → Literal
equal_bit g e [] bs = e
equal_bit g e (a ∷ as') [] = e
equal_bit g e (a ∷ as') (b ∷ bs) = equal_bit (suc (suc g)) (positive_of (suc g)) as' bs
