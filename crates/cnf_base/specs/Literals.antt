-- Literals of propositional logic: a variable, or its negation.
use Rattle.std.specs.Prelude.{ℕ, ◌+◌, ◌*◌, ◌/◌, ◌%◌, Bool, true, false, not, ◌==◌, if◌then◌else◌}

-- a variable with a sign
pub record Literal : Type 0 where
  pub variable : ℕ
  pub positive : Bool

-- the literal that is true where its variable is
abbrev pub positive_of : ℕ → Literal
positive_of x = record { variable = x; positive = true }

-- the literal that is true where its variable is false
abbrev pub negative_of : ℕ → Literal
negative_of x = record { variable = x; positive = false }

-- the opposite literal
abbrev pub negated : Literal → Literal
negated l = record { variable = l.variable; positive = not l.positive }

-- the literal that is true in every assignment in which variable 1 is, and its negation
abbrev pub true_literal : Literal
true_literal = positive_of 1

abbrev pub false_literal : Literal
false_literal = negative_of 1

-- a number for each literal, by which tables have their rows: twice the variable, and one more for a negation
abbrev pub code_of : Literal → ℕ
code_of l = 2 * l.variable + (if l.positive then 0 else 1)

-- the literal of a code
abbrev pub literal_of : ℕ → Literal
literal_of code = record { variable = code / 2; positive = code % 2 == 0 }
