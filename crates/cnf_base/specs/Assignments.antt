-- Assignments that are given new variables, and what agrees below a variable.
use Rattle.std.specs.Prelude.{◌≡◌, ℕ, zero, suc, ◌/◌, ◌%◌, ◌<◌, Bool, ◌==◌, if◌then◌else◌, List, [], ◌∷◌}
use Rattle.std.specs.List.{AllByRecursion}
use Rattle.cnf_base.specs.Literals.{Literal, positive_of}
use Rattle.cnf_base.specs.declared.gate.GateKind.{GateKind}
use Rattle.cnf_base.specs.Gates.{gate_value}

-- the second assignment gives each variable below n the value that the first gives it
abbrev pub AgreeBelow : ℕ → (ℕ → Bool) → (ℕ → Bool) → Type 0
AgreeBelow n f g = (x : ℕ) → x < n → g x ≡ f x

-- each literal is of a variable below n
abbrev pub AreBelow : ℕ → List Literal → Type 0
AreBelow n = AllByRecursion (λ l. l.variable < n)

-- each clause is of variables below n
abbrev pub ClausesBelow : ℕ → List (List Literal) → Type 0
ClausesBelow n = AllByRecursion (AreBelow n)

-- the assignment with this value of variable g
abbrev pub with_variable : (ℕ → Bool) → ℕ → Bool → ℕ → Bool
with_variable f g b x = if x == g then b else f x

-- the positive literals of n variables from g on
abbrev pub fresh_bits : ℕ → ℕ → List Literal
fresh_bits g zero = []
fresh_bits g (suc n) = positive_of g ∷ fresh_bits (suc g) n

-- the assignment in which the n variables from g on are the low bits of a number, the lowest first
abbrev pub with_number : (ℕ → Bool) → ℕ → ℕ → ℕ → ℕ → Bool
with_number f g zero x = f
with_number f g (suc n) x = with_number (with_variable f g (x % 2 == 1)) (suc g) n (x / 2)

-- the assignment in which each variable from g on has the value of its gate, one gate after the other
abbrev pub with_gates : (ℕ → Bool) → ℕ → List GateKind → ℕ → Bool
with_gates f g [] = f
with_gates f g (k ∷ ks) = with_gates (with_variable f g (gate_value f k)) (suc g) ks
