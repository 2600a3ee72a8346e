-- A search in its midst: what it holds of the clauses, and what a checker holds that has read what it has written so far.
use Rattle.std.specs.Prelude.{◌≡◌, ℕ, ◌+◌, ◌^◌, ◌<◌, ◌≤◌, List, [], ◌++◌, Option, Some, None, Contains, length, slice_get}
use Rattle.std.specs.Io.KnownBytes.{Appends}
use Rattle.cnf_base.specs.Literals.{Literal}
use Rattle.cnf_base.specs.declared.clause.ClauseId.{ClauseId}
use Rattle.hint_chain.specs.Chains.{Lookup, FindsMore}
use Rattle.cdcl_core.specs.declared.watches.Watches.{Watches}
use Rattle.cdcl_core.specs.Search.{clause_of, held_of}
use Rattle.cdcl_loop.specs.declared.engine.Engine.{Engine}
use Rattle.cdcl_loop.specs.Engines.{IsEngine, IsOnCourse}
use Rattle.dimacs_front.specs.Cnf.{CnfValue}
use Rattle.dimacs_front.specs.Lrat.{Judged, lrat_of, lrat_goes_on}
use Rattle.dimacs_front.specs.Chains.{look_in}
use Rattle.dimacs_search.specs.Solving.{AreOf}

-- the clause of this number
abbrev pub at_number : ℕ → ClauseId
at_number n = record { pos = n; part = 0 }

-- the first clauses, so many, are held under their numbers, from 1 on
abbrev pub AreHeld : CnfValue → ℕ → Watches → Type 0
AreHeld cnf n w = (i : ℕ) (c : List Literal) → i < n → slice_get cnf.clauses i ≡ Some c → held_of w (at_number (i + 1)) ≡ Some c

-- and no others are kept
abbrev pub AreOnly : CnfValue → ℕ → Watches → Type 0
AreOnly cnf n w = (id : ClauseId) (c : List Literal) → clause_of w id ≡ Some c → (i : ℕ) × (i < n) × (id ≡ at_number (i + 1)) × (slice_get cnf.clauses i ≡ Some c)

-- the first variables are listed, from 1 on
abbrev pub AreListed : ℕ → List ℕ → Type 0
AreListed n listed = (x : ℕ) → 0 < x → x ≤ n → Contains listed x

-- no clause is kept under this number or one above
abbrev pub AreFresh : Watches → ℕ → Type 0
AreFresh w n = (id : ClauseId) → n ≤ id.pos → clause_of w id ≡ None

-- the same clauses are kept, and of those below this number the same are held
pub record IsKeeping (first : ℕ) (old new : Watches) : Type 0 where
  pub kept : (id : ClauseId) → clause_of new id ≡ clause_of old id
  pub held : (id : ClauseId) (c : List Literal) → id.pos < first → held_of old id ≡ Some c → held_of new id ≡ Some c

-- an engine without given literals that has listed the variables, and holds the clauses
pub record IsSearching (cnf : CnfValue) (e : Engine) : Type 0 where
  pub engine : IsEngine e
  pub course : IsOnCourse e
  pub free : e.given.items ≡ []
  pub listed : AreListed cnf.variables e.agenda.list
  pub held : AreHeld cnf (length cnf.clauses) e.watches

-- A checker that has read this text, which ends with a whole line, holds each clause that can be looked up, under its number. These
-- numbers, and all that the checker has met, are below the next one.
pub record IsRead (cnf : CnfValue) (look : Lookup) (next : ℕ) (text : List ℕ) : Type 0 where
  pub judged : Judged
  pub reads : (rest : List ℕ) → lrat_of cnf (text ++ rest) ≡ lrat_goes_on judged rest
  pub whole : judged.begun ≡ []
  pub variables : judged.variables ≡ cnf.variables
  pub few : cnf.variables < 2 ^ 60
  pub below : length judged.judging.table.clauses < next
  pub even : length judged.judging.table.live ≡ length judged.judging.table.clauses
  pub finds : FindsMore look (look_in judged.judging.table)
  pub numbers : (id : ClauseId) (c : List Literal) → look id ≡ Some c → (0 < id.pos) × (id.pos < next)
  pub literals : (id : ClauseId) (c : List Literal) → look id ≡ Some c → AreOf cnf.variables c

-- what was written, and the lines behind it that wait
pub record IsTelling (cnf : CnfValue) (look : Lookup) (next : ℕ) (old new : Option (List ℕ)) (waiting : List ℕ) : Type 0 where
  pub told : List ℕ
  pub written : Appends old new told
  pub read : IsRead cnf look next (told ++ waiting)
