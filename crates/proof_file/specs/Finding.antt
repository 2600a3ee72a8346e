-- How what a record needs is found: what it names, then what is cited by what was found.
use Rattle.std.specs.Prelude.{◌≡◌, ◌⊎◌, ◌<◌, ℕ, List, [], ◌∷◌, map, Contains, All, Option, Some, None, slice_get}
use Rattle.cnf_base.specs.declared.clause.ClauseId.{ClauseId}
use Rattle.proof_log.specs.declared.entry.Entry.{Entry}
use Rattle.proof_log.specs.declared.entry.Entry.TheVariants as step
use Rattle.proof_log.specs.Logs.{entry_at}
use Rattle.proof_text.specs.Deletions.{place_of}
use Rattle.proof_text.specs.declared.record.Record.{Record}
use Rattle.proof_text.specs.declared.record.Record.TheVariants.{Sat, Unsat, Unknown}
use Rattle.proof_file.specs.Needed.{IsDerived, IsNeeded}

-- a lemma or a chain stands at the position, and the file has it nowhere
abbrev pub IsWanted : List Entry → (ℕ → ℕ) → ℕ → Type 0
IsWanted log places p = IsDerived log p × (places p ≡ 0)

-- what was found stays at its place, and what is wanted of these positions, and nothing else, is found too
pub record AreFound (log : List Entry) (places : ℕ → ℕ) (ps old new : List ℕ) : Type 0 where
  pub stays : (k x : ℕ) → slice_get old k ≡ Some x → slice_get new k ≡ Some x
  pub only : (x : ℕ) → Contains new x → Contains old x ⊎ (Contains ps x × IsWanted log places x)
  pub all : (x : ℕ) → Contains ps x → IsWanted log places x → Contains new x

-- the positions that the hints name
abbrev pub hint_positions : List ClauseId → List ℕ
hint_positions hints = map (λ (h : ClauseId). h.pos) hints

-- what a step is derived from
abbrev pub cited_by : Option Entry → List ℕ
cited_by (Some (step.Chain c hints)) = hint_positions hints
cited_by _ = []

-- the positions that the record names
abbrev pub named_by : Record → List ℕ
named_by (Sat values) = []
named_by (Unsat p) = p ∷ []
named_by (Unknown d) = map place_of d.lines

-- all that was found is needed and has no place; what is wanted of what the record names was found, and of what the first so many are
-- derived from
pub record IsSearch (log : List Entry) (places : ℕ → ℕ) (r : Record) (found : List ℕ) (done : ℕ) : Type 0 where
  pub each : (p : ℕ) → Contains found p → IsNeeded log places r p × (places p ≡ 0)
  pub named : (p : ℕ) → Contains (named_by r) p → IsWanted log places p → Contains found p
  pub closed : (k q p : ℕ) → k < done → slice_get found k ≡ Some q → Contains (cited_by (entry_at log q)) p → IsWanted log places p → Contains found p
