-- How a search with lemmas ends.
use Rattle.std.specs.Prelude.{◌≡◌, ℕ, Bool, true, List}
use Rattle.smt_terms.specs.declared.node.Node.{Node}
use Rattle.smt_terms.specs.Terms.{sort_of}
use Rattle.smt_terms.specs.Values.{Interpretation, Value, value}
use Rattle.smt_terms.specs.Evaluations.{has_no_witness}
use Rattle.smt_values.specs.Held.{interpretation_of}
use Rattle.theory_terms.specs.Shapes.{IsPlain}
use Rattle.access_tables.specs.Held.{value_by}
use Rattle.proof_log.specs.declared.board.Sync.{Sync}
use Rattle.proof_log.specs.declared.entry.Entry.{Entry}
use Rattle.proof_log.specs.Logs.{state_of}
use Rattle.proof_log.specs.Diaries.{Subject}
use Rattle.cube_search.specs.Ends as of
use Rattle.theory_search.specs.declared.ends.End.{End}
use Rattle.theory_search.specs.declared.ends.End.TheVariants.{Closed, Model, Spent, Stopped}
use Rattle.theory_search.specs.Theories.{Reached}

-- the values that an assignment of the variables gives to the bits of a term
abbrev pub value_in : List Node → List Entry → (ℕ → Bool) → ℕ → Value
value_in nodes log v t = value_by v (sort_of nodes t) ((state_of nodes log).bits t)

-- In the interpretation each Bool and each word that the live terms reach, and in which no witness stands, has the value of its bits
-- under the assignment, which makes true every clause of these positions and each given literal.
pub record IsModelOf (g : Subject) (live positions : List ℕ) (v : ℕ → Bool) (M : Interpretation) : Type 0 where
  pub clauses : of.IsModel (state_of g.nodes g.log).clauses positions g.given v
  pub values : (t : ℕ) → Reached g.nodes g.log live t → IsPlain (sort_of g.nodes t) → has_no_witness g.nodes t ≡ true → value M g.nodes t ≡ value_in g.nodes g.log v t

-- What an end says of a board after it, of which the search holds these positions, and of the value of each variable under the search's
-- true literals. That of a diary it says where the condition holds. A search is stopped only where the board told that a model was
-- found, which it has seen.
abbrev pub IsEnd : Type 0 → Subject → (ℕ → Type 0) → Bool → Sync → List ℕ → List ℕ → (ℕ → Bool) → ℕ → ℕ → End → Type 0
IsEnd condition g knows found told live positions v cube budget (Closed p) = of.IsClosing (state_of g.nodes g.log).clauses g.given p
IsEnd condition g knows found told live positions v cube budget (Model m) = IsModelOf g live positions v (interpretation_of m)
IsEnd condition g knows found told live positions v cube budget (Spent d) = (d.cube ≡ cube) × (condition → of.IsSpentDiary g knows told budget d)
IsEnd condition g knows found told live positions v cube budget Stopped = (found ≡ true) × (told.found ≡ true)
