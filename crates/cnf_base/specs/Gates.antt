-- Gates: what each means, and the clauses that say so
-- (G. S. Tseitin, "On the complexity of derivation in propositional calculus", 1968).
use Rattle.std.specs.Prelude.{◌≡◌, ℕ, suc, ◌<◌, Bool, ◌&&◌, if◌then◌else◌, not, List, [], ◌∷◌, ◌++◌}
use Rattle.cnf_base.specs.Literals.{Literal, positive_of, negative_of, negated}
use Rattle.cnf_base.specs.declared.gate.GateKind.{GateKind}
use Rattle.cnf_base.specs.declared.gate.GateKind.TheVariants.{And, Xor, Ite}
use Rattle.cnf_base.specs.Clauses.{lit_true}

-- the value of a gate, from those of its inputs
abbrev pub gate_value : (ℕ → Bool) → GateKind → Bool
gate_value v (And a b) = lit_true v a && lit_true v b
gate_value v (Xor a b) = if lit_true v a then not (lit_true v b) else lit_true v b
gate_value v (Ite c a b) = if lit_true v c then lit_true v a else lit_true v b

-- the clauses of the gate whose variable is g
abbrev pub gate_clauses : ℕ → GateKind → List (List Literal)
gate_clauses g (And a b) =
    (negative_of g ∷ a ∷ [])
    ∷ (negative_of g ∷ b ∷ [])
    ∷ (positive_of g ∷ negated a ∷ negated b ∷ [])
    ∷ []
gate_clauses g (Xor a b) =
    (negative_of g ∷ a ∷ b ∷ [])
    ∷ (negative_of g ∷ negated a ∷ negated b ∷ [])
    ∷ (positive_of g ∷ negated a ∷ b ∷ [])
    ∷ (positive_of g ∷ a ∷ negated b ∷ [])
    ∷ []
gate_clauses g (Ite c a b) =
    (negative_of g ∷ negated c ∷ a ∷ [])
    ∷ (positive_of g ∷ negated c ∷ negated a ∷ [])
    ∷ (negative_of g ∷ c ∷ b ∷ [])
    ∷ (positive_of g ∷ c ∷ negated b ∷ [])
    ∷ []

-- the clauses of a row of gates, whose variables begin at g
abbrev pub gates_clauses : ℕ → List GateKind → List (List Literal)
gates_clauses g [] = []
gates_clauses g (k ∷ ks) = gate_clauses g k ++ gates_clauses (suc g) ks

-- each variable of the row has the value of its gate
abbrev pub HaveMeaning : (ℕ → Bool) → ℕ → List GateKind → Type 0
HaveMeaning v g [] = Unit {0}
HaveMeaning v g (k ∷ ks) = (v g ≡ gate_value v k) × HaveMeaning v (suc g) ks

-- the inputs of a gate are of variables below g
abbrev pub InputsBelow : ℕ → GateKind → Type 0
InputsBelow g (And a b) = (a.variable < g) × (b.variable < g)
InputsBelow g (Xor a b) = (a.variable < g) × (b.variable < g)
InputsBelow g (Ite c a b) = (c.variable < g) × (a.variable < g) × (b.variable < g)

-- the inputs of each gate of a row, whose variables begin at g, stand before it
abbrev pub AreOrdered : ℕ → List GateKind → Type 0
AreOrdered g [] = Unit {0}
AreOrdered g (k ∷ ks) = InputsBelow g k × AreOrdered (suc g) ks
