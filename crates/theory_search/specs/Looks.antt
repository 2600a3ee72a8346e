-- What a look at a model comes to.
use Rattle.std.specs.Prelude.{◌≡◌, ℕ, Bool, List, Contains}
use Rattle.smt_values.specs.Held.{interpretation_of}
use Rattle.smt_terms.specs.declared.node.Node.{Node}
use Rattle.theory_terms.specs.declared.lemma.Lemma.{Lemma}
use Rattle.proof_log.specs.declared.entry.Entry.{Entry}
use Rattle.proof_log.specs.Diaries.{Subject}
use Rattle.access_walk.specs.declared.walking.Conflicts.{Conflicts}
use Rattle.cube_search.specs.declared.ends.End as of
use Rattle.cube_search.specs.declared.ends.End.TheVariants as from
use Rattle.theory_search.specs.declared.ends.End.{End}
use Rattle.theory_search.specs.declared.ends.End.TheVariants as to
use Rattle.theory_search.specs.declared.looking.Looked.{Looked}
use Rattle.theory_search.specs.declared.looking.Looked.TheVariants.{Model, Lemmas}
use Rattle.theory_search.specs.Theories.{IsReady}
use Rattle.theory_search.specs.Ends.{IsModelOf}

-- lemmas that have a clause as soon as their equalities have variables: false ones, and further ones
pub record AreLemmas (nodes : List Node) (log : List Entry) (found : Conflicts) : Type 0 where
  pub falses : (l : Lemma) → Contains found.falses.items l → IsReady nodes log l
  pub siblings : (l : Lemma) → Contains found.siblings.items l → IsReady nodes log l

-- an interpretation with the values of the assignment, or lemmas
abbrev pub IsLooked : Subject → List ℕ → List ℕ → (ℕ → Bool) → Looked → Type 0
IsLooked g live positions v (Model m) = IsModelOf g live positions v (interpretation_of m)
IsLooked g live positions v (Lemmas found) = AreLemmas g.nodes g.log found

-- What an end of the search comes to at once: the same, but for a model an interpretation with its values.
abbrev pub Becomes : Subject → List ℕ → List ℕ → (ℕ → Bool) → of.End → End → Type 0
Becomes g live positions v (from.Closed p) (to.Closed q) = p ≡ q
Becomes g live positions v from.Model (to.Model m) = IsModelOf g live positions v (interpretation_of m)
Becomes g live positions v (from.Spent d) (to.Spent e) = d ≡ e
Becomes g live positions v from.Stopped to.Stopped = Unit {0}
Becomes g live positions v _ _ = ⊥
