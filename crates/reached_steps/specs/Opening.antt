-- Which steps of a log with functions and arrays a search holds from the beginning.
use Rattle.std.specs.Prelude.{◌≡◌, ◌⊎◌, ◌<◌, ◌++◌, ℕ, suc, true, false, List, length, Some, Contains, IsSome, slice_get}
use Rattle.std.specs.List.{AllByRecursion}
use Rattle.cnf_base.specs.Literals.{Literal}
use Rattle.cnf_base.specs.declared.clause.ClauseId.{ClauseId}
use Rattle.smt_terms.specs.declared.node.Node.{Node}
use Rattle.smt_terms.specs.Terms.{IsTermList}
use Rattle.theory_terms.specs.declared.lemma.Lemma.{Lemma}
use Rattle.proof_log.specs.declared.entry.Entry.{Entry}
use Rattle.proof_log.specs.declared.entry.Entry.TheVariants as step
use Rattle.proof_log.specs.Logs.{clause_in, clause_at, entry_at, state_of, IsLog}
use Rattle.proof_log.specs.Meanings.{Owns}
use Rattle.proof_log.specs.Places.{GivesBits}
use Rattle.proof_log.specs.Stored.{LogValue, Stands}
use Rattle.proof_log.specs.Assigned.{AreClosed}
use Rattle.proof_log.specs.Diaries.{is_chain}
use Rattle.cube_search.specs.Holding.{AreSeparate, Occurs}
use Rattle.cube_search.specs.Keeping.{is_theory}
use Rattle.reached_steps.specs.Reached.{IsOfTerms}

-- the variable is 1, or a step at one of these positions made it
abbrev pub IsMadeAt : List Node → List Entry → List ℕ → ℕ → Type 0
IsMadeAt nodes log positions x = (x ≡ 1) ⊎ ((p : ℕ) × Contains positions (suc p) × Owns nodes log p x)

-- the step at the position gave the equality of two of these terms its variable
abbrev pub IsOfPair : List Entry → List ℕ → ℕ → Type 0
IsOfPair log terms p = (t : ℕ) × (u : ℕ) × Contains terms t × Contains terms u × (entry_at log p ≡ Some (step.Equal t u))

-- the position is of a lemma, whose clause has only variables that steps at these positions made
pub record IsOfLemma (nodes : List Node) (log : List Entry) (positions : List ℕ) (p : ℕ) : Type 0 where
  pub lemma : Lemma
  pub is : entry_at log p ≡ Some (step.Lemma lemma)
  pub own : (k : ℕ) (c : List Literal) (l : Literal) → clause_in (slice_get (state_of nodes log).clauses p) k ≡ Some c → Contains c l → IsMadeAt nodes log positions l.variable

-- Of the reached terms, with each of which is its image, or its arguments where it has none, these are the positions of the steps
-- that gave bits to those that have some, and of lemmas, where each other lemma has a variable that no step at these positions
-- made; and beside these at most those of equalities of two of the terms, and of selectors of their assertions. Position 0 is one.
pub record AreOpeningSteps (nodes : List Node) (log : List Entry) (reached positions : List ℕ) : Type 0 where
  pub closed : AreClosed nodes (state_of nodes log).images (Contains reached)
  pub first : Contains positions 0
  pub terms : (t : ℕ) → Contains reached t → IsSome ((state_of nodes log).bits t) → (p : ℕ) × GivesBits log t p × Contains positions p
  pub lemmas : (p k : ℕ) (lemma : Lemma) (c : List Literal) → entry_at log p ≡ Some (step.Lemma lemma) → clause_in (slice_get (state_of nodes log).clauses p) k ≡ Some c
      → Contains positions p ⊎ ((l : Literal) × Contains c l × (IsMadeAt nodes log positions l.variable → ⊥))
  pub only : (p : ℕ) → Contains positions p → IsOfTerms log reached p ⊎ (IsOfPair log reached p ⊎ IsOfLemma nodes log positions p)

-- the variable is one of the bits of these terms
abbrev pub IsBitOf : List Node → List Entry → List ℕ → ℕ → Type 0
IsBitOf nodes log terms x = (t : ℕ) × (row : List Literal) × (l : Literal) × Contains terms t × ((state_of nodes log).bits t ≡ Some row) × Contains row l × (l.variable ≡ x)

-- Each clause of another step that is no chain's has a variable that stands in no clause at such positions, and is none of the bits of
-- the reached terms. So it stays foreign where equalities of these terms come, and lemmas over them.
abbrev pub OpeningStepsAreApart : Type 0
OpeningStepsAreApart =
    (nodes : List Node) (log : List Entry) (reached positions : List ℕ)
    → IsTermList nodes → IsLog nodes log → AreOpeningSteps nodes log reached positions
    → (id : ClauseId) (c : List Literal) → is_chain (entry_at log id.pos) ≡ false → clause_at (state_of nodes log).clauses id ≡ Some c
    → Contains positions id.pos ⊎ ((l : Literal) × Contains c l × (Occurs (state_of nodes log).clauses positions l.variable → ⊥) × (IsBitOf nodes log reached l.variable → ⊥))

-- a search over such positions of a log needs no others, wherever it begins
abbrev pub OpeningStepsAreSeparate : Type 0
OpeningStepsAreSeparate =
    (nodes : List Node) (log : List Entry) (reached positions : List ℕ) (from : ℕ)
    → IsTermList nodes → IsLog nodes log → AreOpeningSteps nodes log reached positions → AreSeparate (state_of nodes log).clauses log positions from

-- the same of a stored log
abbrev pub StoredOpeningsAreSeparate : Type 0
StoredOpeningsAreSeparate =
    (nodes : List Node) (log : LogValue) (reached positions : List ℕ) (from : ℕ)
    → IsTermList nodes → Stands nodes log → AreOpeningSteps nodes log.entries reached positions → AreSeparate log.clauses log.entries positions from

-- ---- on the way of a search

-- a chain, an equality or a lemma
abbrev pub IsSearchStep : Entry → Type 0
IsSearchStep e = (is_chain (Some e) ≡ true) ⊎ (is_theory (Some e) ≡ true)

-- Behind the steps of a log come chains, equalities of two of the reached terms, and lemmas with variables alone that steps at the
-- new positions made. The new positions are the old ones and those of these equalities and lemmas.
pub record AreTaken (nodes : List Node) (log more : List Entry) (reached old new : List ℕ) : Type 0 where
  pub steps : AllByRecursion IsSearchStep more
  pub pairs : (p t u : ℕ) → length log < p → entry_at (log ++ more) p ≡ Some (step.Equal t u) → Contains reached t × Contains reached u
  pub lemmas : (p k : ℕ) (lemma : Lemma) (c : List Literal) (l : Literal) → length log < p → entry_at (log ++ more) p ≡ Some (step.Lemma lemma)
      → clause_in (slice_get (state_of nodes (log ++ more)).clauses p) k ≡ Some c → Contains c l → IsMadeAt nodes (log ++ more) new l.variable
  pub kept : (p : ℕ) → Contains old p → Contains new p
  pub all : (p : ℕ) → length log < p → is_theory (entry_at (log ++ more) p) ≡ true → Contains new p
  pub only : (p : ℕ) → Contains new p → Contains old p ⊎ ((length log < p) × (is_theory (entry_at (log ++ more) p) ≡ true))

-- a search that takes them over such positions has such positions
abbrev pub TakenStepsAreOpening : Type 0
TakenStepsAreOpening =
    (nodes : List Node) (log more : List Entry) (reached old new : List ℕ)
    → IsTermList nodes → IsLog nodes (log ++ more) → AreOpeningSteps nodes log reached old → AreTaken nodes log more reached old new → AreOpeningSteps nodes (log ++ more) reached new
