-- Circuits under construction: what contracts see of one, and what it gains.
use Rattle.std.specs.Prelude.{◌≡◌, ℕ, ◌+◌, Bool, true, List, ◌++◌, ◌↔◌, length}
use Rattle.cnf_base.specs.Literals.{Literal}
use Rattle.cnf_base.specs.declared.gate.GateKind.{GateKind}
use Rattle.cnf_base.specs.Clauses.{all_true}
use Rattle.cnf_base.specs.Gates.{gates_clauses, HaveMeaning}
use Rattle.cnf_base.specs.Assignments.{AgreeBelow, with_gates}

-- the next variable, and the clauses so far
pub record CircuitValue : Type 0 where
  pub next : ℕ
  pub clauses : List (List Literal)

-- the new circuit has these gates more, and nothing else
pub record Gains (old new : CircuitValue) (gates : List GateKind) : Type 0 where
  pub next : new.next ≡ old.next + length gates
  pub clauses : new.clauses ≡ old.clauses ++ gates_clauses old.next gates

-- the new circuit has the old clauses, and perhaps more after them
abbrev pub Extends : CircuitValue → CircuitValue → Type 0
Extends old new = (more : List (List Literal)) × (new.clauses ≡ old.clauses ++ more)

-- the clauses of the new circuit are true exactly where those of the old one are, and each new variable is its gate
abbrev pub MeansGates : CircuitValue → CircuitValue → List GateKind → Type 0
MeansGates old new gates =
    (v : ℕ → Bool) → (all_true v new.clauses ≡ true) ↔ ((all_true v old.clauses ≡ true) × HaveMeaning v old.next gates)

-- an assignment of the variables below g is made one of the gates' variables too in exactly one way
pub record IsDetermined (f : ℕ → Bool) (g : ℕ) (gates : List GateKind) : Type 0 where
  pub keeps : AgreeBelow g f (with_gates f g gates)
  pub satisfies : all_true (with_gates f g gates) (gates_clauses g gates) ≡ true
  pub only : (v : ℕ → Bool) → AgreeBelow g f v → all_true v (gates_clauses g gates) ≡ true → AgreeBelow (g + length gates) (with_gates f g gates) v

-- the circuit has those gates of a row that come before a rest of it
pub record Grows (start now : CircuitValue) (rest whole : List GateKind) : Type 0 where
  pub done : List GateKind
  pub gains : Gains start now done
  pub split : whole ≡ done ++ rest
