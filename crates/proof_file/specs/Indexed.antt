-- What is kept to find which chains of a file are stale: under each assertion the positions of those that have its negated selector.
use Rattle.std.specs.Prelude.{◌≡◌, ◌≢◌, ℕ, ◌<◌, ◌≤◌, if◌then◌else◌, List, [], length, Contains, Option, Some, None, slice_get, slice_index_or}
use Rattle.cnf_base.specs.Literals.{Literal, positive_of, negated}
use Rattle.cnf_base.specs.declared.clause.ClauseId.{ClauseId}
use Rattle.smt_terms.specs.declared.node.Node.{Node}
use Rattle.scope_selectors.specs.declared.live.Live.{Live}
use Rattle.proof_log.specs.declared.entry.Entry.{Entry}
use Rattle.proof_log.specs.declared.entry.Entry.TheVariants as step
use Rattle.proof_log.specs.Logs.{Asserted, entry_at, state_of}
use Rattle.proof_text.specs.Deletions.{is_deleted}
use Rattle.proof_file.specs.Places.{with_place}
use Rattle.proof_file.specs.Stale.{AreStale}

-- How many steps of the log were read, by variable the assertion of which it is the selector, by assertion the positions that are noted
-- under it, and the assertions under which some are.
pub record StaleIndex : Type 0 where
  pub read : ℕ
  pub selected : List (Option ℕ)
  pub noted : List (List ℕ)
  pub watched : List ℕ

-- the assertion of which the variable is the selector
abbrev pub selected_by : List (Option ℕ) → ℕ → Option ℕ
selected_by rows x = slice_index_or rows x None

-- the positions under the assertion
abbrev pub noted_under : List (List ℕ) → ℕ → List ℕ
noted_under rows a = slice_index_or rows a []

-- the place of a position by a table, which has the later ones nowhere
abbrev pub place_in : List ℕ → ℕ → ℕ
place_in places p = slice_index_or places p 0

-- the variable is the selector of the assertion
abbrev pub IsSelectorOf : List Node → List Entry → ℕ → ℕ → Type 0
IsSelectorOf nodes log a x = (t : ℕ) × ((state_of nodes log).selectors a ≡ Some (record { literal = positive_of x; term = t }))

-- a chain stands at the position whose clause has the negated selector of the assertion
pub record RestsOn (nodes : List Node) (log : List Entry) (a p : ℕ) : Type 0 where
  pub selector : Asserted
  pub made : (state_of nodes log).selectors a ≡ Some selector
  pub clause : List Literal
  pub hints : List ClauseId
  pub chain : entry_at log p ≡ Some (step.Chain clause hints)
  pub negation : Contains clause (negated selector.literal)

-- It is an index of this log over these terms, and of the file in which positions have these places: the selectors of the steps that were
-- read are known, the chains that are noted under an assertion rest on it, and none that has a place is missing.
pub record IsIndexOf (v : StaleIndex) (nodes : List Node) (log : List Entry) (places : ℕ → ℕ) : Type 0 where
  pub within : v.read ≤ length log
  pub known : (p a t : ℕ) → p < v.read → slice_get log p ≡ Some (step.Selector a t) → (x : ℕ) × IsSelectorOf nodes log a x × (selected_by v.selected x ≡ Some a)
  pub own : (x a : ℕ) → selected_by v.selected x ≡ Some a → IsSelectorOf nodes log a x
  pub placed : (p : ℕ) → places p ≢ 0 → p ≤ length log
  pub each : (a p : ℕ) → Contains (noted_under v.noted a) p → RestsOn nodes log a p
  pub every : (a p : ℕ) → RestsOn nodes log a p → places p ≢ 0 → Contains (noted_under v.noted a) p
  pub watched : (a p : ℕ) → Contains (noted_under v.noted a) p → Contains v.watched a

-- all selectors are known
abbrev pub KnowsAll : StaleIndex → List Node → List Entry → Type 0
KnowsAll v nodes log = (a : ℕ) (r : Asserted) → (state_of nodes log).selectors a ≡ Some r → selected_by v.selected r.literal.variable ≡ Some a

-- ---- what calls leave

-- wherever it was an index, it is one that knows all selectors
abbrev pub IsLearned : List Node → List Entry → StaleIndex → StaleIndex → Type 0
IsLearned nodes log old new = (places : ℕ → ℕ) → IsIndexOf old nodes log places → IsIndexOf new nodes log places × KnowsAll new nodes log

-- wherever it was an index that knows all selectors, it is one, also where the chain of this clause at this position gets a place
abbrev pub IsNoted : ℕ → List Literal → StaleIndex → StaleIndex → Type 0
IsNoted p c old new =
    (nodes : List Node) (log : List Entry) (places : ℕ → ℕ) (hints : List ClauseId) (q : ℕ) →
    IsIndexOf old nodes log places → KnowsAll old nodes log → entry_at log p ≡ Some (step.Chain c hints) →
    IsIndexOf new nodes log (with_place places p q) × KnowsAll new nodes log

-- wherever it was an index, these places are what is stale, and it is an index of the file without them
abbrev pub IsFound : List Live → List ℕ → List ℕ → StaleIndex → StaleIndex → Type 0
IsFound live places qs old new =
    (nodes : List Node) (log : List Entry) → IsIndexOf old nodes log (place_in places) →
    AreStale nodes log live (place_in places) qs × IsIndexOf new nodes log (λ p. if is_deleted qs (place_in places p) then 0 else place_in places p)
