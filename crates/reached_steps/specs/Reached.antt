-- Which steps of a log are those of the terms that a check reaches.
use Rattle.std.specs.Prelude.{◌≡◌, ◌⊎◌, ℕ, List, Some, All, Contains}
use Rattle.std.specs.List.{AllByRecursion}
use Rattle.smt_terms.specs.declared.node.Node.{Node}
use Rattle.smt_terms.specs.Terms.{IsTermList}
use Rattle.proof_log.specs.declared.entry.Entry.{Entry}
use Rattle.proof_log.specs.declared.entry.Entry.TheVariants as step
use Rattle.proof_log.specs.Logs.{entry_at, state_of, IsLog}
use Rattle.proof_log.specs.Places.{GivesBits}
use Rattle.proof_log.specs.Words.{IsOfWords}
use Rattle.proof_log.specs.Stored.{LogValue, Stands}
use Rattle.proof_log.specs.Assigned.{AreClosed}
use Rattle.cube_search.specs.Holding.{AreSeparate}

-- the position is 0, or of a step that gave bits to one of these terms, or of the selector of an assertion of such a term
abbrev pub IsOfTerms : List Entry → List ℕ → ℕ → Type 0
IsOfTerms log terms p =
    (p ≡ 0) ⊎ (((t : ℕ) × Contains terms t × GivesBits log t p) ⊎ ((a : ℕ) × (t : ℕ) × Contains terms t × (entry_at log p ≡ Some (step.Selector a t))))

-- Of some terms, with each of which is its image, or its arguments where it has none, these are the positions of the steps that gave them their bits, and beside
-- these at most the positions of selectors of their assertions. Position 0 is one. The log is of Bools and words alone, since a
-- lemma may have a clause over reached variables alone.
pub record AreReachedSteps (nodes : List Node) (log : List Entry) (positions : List ℕ) : Type 0 where
  pub reached : List ℕ
  pub closed : AreClosed nodes (state_of nodes log).images (Contains reached)
  pub first : Contains positions 0
  pub terms : All (λ t. (p : ℕ) × GivesBits log t p × Contains positions p) reached
  pub only : (p : ℕ) → Contains positions p → IsOfTerms log reached p
  pub words : AllByRecursion (IsOfWords nodes) log

-- a search over such positions of a log needs no others, wherever it begins
abbrev pub ReachedStepsAreSeparate : Type 0
ReachedStepsAreSeparate =
    (nodes : List Node) (log : List Entry) (positions : List ℕ) (from : ℕ)
    → IsTermList nodes → IsLog nodes log → AreReachedSteps nodes log positions → AreSeparate (state_of nodes log).clauses log positions from

-- the same of a stored log
abbrev pub StoredStepsAreSeparate : Type 0
StoredStepsAreSeparate =
    (nodes : List Node) (log : LogValue) (positions : List ℕ) (from : ℕ)
    → IsTermList nodes → Stands nodes log → AreReachedSteps nodes log.entries positions → AreSeparate log.clauses log.entries positions from
