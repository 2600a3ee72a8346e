-- The line of an LRAT text that adds a clause, as it is written.
use Rattle.std.specs.Prelude.{ℕ, ◌+◌, ◌^◌, ◌<◌, ◌≤◌, false, not, if◌then◌else◌, List, [], ◌∷◌, ◌++◌, codes, map, length}
use Rattle.std.specs.List.{flat_map, AllByRecursion}
use Rattle.std.specs.Fmt.{decimal}
use Rattle.cnf_base.specs.Literals.{Literal}
use Rattle.cnf_base.specs.declared.clause.ClauseId.{ClauseId}
use Rattle.hint_chain.specs.Chains.{IsChain}
use Rattle.dimacs_front.specs.declared.number.Number.{Number}
use Rattle.dimacs_front.specs.Lrat.{Judged, added}
use Rattle.dimacs_front.specs.Chains.{look_in}

-- a literal, and the name of a clause, as numbers
abbrev pub number_in : Literal → Number
number_in l = record { size = l.variable; negative = not l.positive }

abbrev pub hint_in : ClauseId → Number
hint_in i = record { size = i.pos; negative = false }

abbrev pub number_text : Number → List ℕ
number_text n = if n.negative then 45 ∷ decimal n.size else decimal n.size

-- each word behind a blank
abbrev pub spaced : List (List ℕ) → List ℕ
spaced ws = flat_map (λ w. 32 ∷ w) ws

-- the numbers, and 0 behind them
abbrev pub ended : List Number → List (List ℕ)
ended ns = map number_text ns ++ codes "0" ∷ []

-- `id L.. 0 hints 0`
abbrev pub added_line : ℕ → List Number → List Number → List ℕ
added_line number ls hs = decimal number ++ spaced (ended ls ++ ended hs)

-- the same, with the line feed
abbrev pub added_text : ℕ → List Literal → List ClauseId → List ℕ
added_text number clause hints = added_line number (map number_in clause) (map hint_in hints) ++ 10 ∷ []

-- numbers that are neither 0 nor cut where they are read
abbrev pub IsWritable : ℕ → Type 0
IsWritable n = (0 < n) × (n < 2 ^ 60)

-- The clause may be added under this number: its literals are of the variables, and the hints are a
-- chain for it from clauses that are held.
pub record MayBeAdded (j : Judged) (number : ℕ) (clause : List Literal) (hints : List ClauseId) : Type 0 where
  pub above : length j.judging.table.clauses < number
  pub writable : IsWritable number
  pub literals : AllByRecursion (λ l. (0 < l.variable) × (l.variable ≤ j.variables)) clause
  pub few : j.variables < 2 ^ 60
  pub names : AllByRecursion (λ i. IsWritable i.pos) hints
  pub chain : IsChain (look_in j.judging.table) clause hints

-- what is judged so far, with this clause added by a line of its own
abbrev pub with_line : Judged → ℕ → List Literal → Judged
with_line j number clause = record { variables = j.variables; lines = j.lines + 1; judging = added j.judging number clause; begun = [] }
