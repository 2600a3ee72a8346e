-- Names of clauses; truth of literals, clauses and lists of clauses under an assignment of the variables.
use Rattle.std.specs.Prelude.{ℕ, ◌+◌, ◌*◌, Bool, true, false, not, ◌&&◌, ◌||◌, if◌then◌else◌, List, [], ◌∷◌}
use Rattle.cnf_base.specs.Literals.{Literal}
use Rattle.cnf_base.specs.declared.clause.ClauseId.{ClauseId}

-- the name that a list of names is read with where it has no element
abbrev pub no_id : ClauseId
no_id = record { pos = 0; part = 0 }

abbrev pub lit_true : (ℕ → Bool) → Literal → Bool
lit_true v l = if l.positive then v l.variable else not (v l.variable)

-- some literal of the clause is true
abbrev pub clause_true : (ℕ → Bool) → List Literal → Bool
clause_true v [] = false
clause_true v (l ∷ ls) = lit_true v l || clause_true v ls

-- every clause is true
abbrev pub all_true : (ℕ → Bool) → List (List Literal) → Bool
all_true v [] = true
all_true v (c ∷ cs) = clause_true v c && all_true v cs

-- a truth value as a number
abbrev pub bit : Bool → ℕ
bit false = 0
bit true = 1

-- a list of literals as a number in binary, the lowest bit first
abbrev pub number : (ℕ → Bool) → List Literal → ℕ
number v [] = 0
number v (l ∷ ls) = bit (lit_true v l) + 2 * number v ls
