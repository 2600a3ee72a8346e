-- A search: between checks, between its runs, and in the midst of one.
use Rattle.std.specs.Prelude.{◌≡◌, ◌<◌, ◌≤◌, ◌⊎◌, ◌+◌, ◌++◌, ◌∷◌, [], ℕ, suc, Bool, true, false, List, length, Some, Contains}
use Rattle.cnf_base.specs.Literals.{Literal}
use Rattle.cnf_base.specs.Assignments.{AreBelow}
use Rattle.cnf_base.specs.declared.clause.ClauseId.{ClauseId}
use Rattle.smt_terms.specs.declared.node.Node.{Node}
use Rattle.smt_terms.specs.Terms.{IsTermList}
use Rattle.proof_log.specs.declared.board.Sync.{Sync}
use Rattle.proof_log.specs.declared.entry.Entry.{Entry}
use Rattle.proof_log.specs.Logs.{clause_at, entry_at, state_of, IsLog}
use Rattle.proof_log.specs.declared.entry.Entry.TheVariants as step
use Rattle.proof_log.specs.declared.diary.DiaryLine.TheVariants.{Put}
use Rattle.proof_log.specs.Boards.{IsPutAt}
use Rattle.proof_log.specs.Diaries.{Subject, is_chain, allowed}
use Rattle.cdcl_core.specs.declared.trail.Trail.{Trail}
use Rattle.cdcl_core.specs.declared.watches.Watches.{Watches}
use Rattle.cdcl_core.specs.Search.{literals_of, level_of, clause_of, held_of}
use Rattle.cdcl_learn.specs.Puts.{IsGoodPut, IsUnitAfter, StandsIn}
use Rattle.cdcl_loop.specs.Engines.{IsEngine, IsOnCourse, IsSameBut}
use Rattle.cdcl_loop.specs.Values.{valuation}
use Rattle.cube_search.specs.declared.search.Search.{Search}
use Rattle.cube_search.specs.Holding.{IsLonger, IsTold, IsHolding, IsFilling, ArePlaced, AreStored, AreOwnHeld}
use Rattle.cube_search.specs.Keeping.{IsKept, IsNotedMore, is_theory, AreImported}

-- what is held of a log over its terms
pub record IsSearchOf (w : Watches) (variables opening taken : List ℕ) (from seen : ℕ) (nodes : List Node) (log : List Entry) : Type 0 where
  pub holding : IsHolding w (state_of nodes log).clauses variables opening taken
  pub placed : ArePlaced (clause_of w) log opening taken from seen
  pub listed : IsTermList nodes
  pub stands : IsLog nodes log

-- the variables of a search, which are those of the clauses at its opening positions
abbrev pub variables_in : Search → List ℕ
variables_in s = s.engine.agenda.list

-- the literals that are given to a search
abbrev pub given_in : Search → List Literal
given_in s = s.engine.given.items

-- the value of each variable under its true literals
abbrev pub valuation_of : Search → ℕ → Bool
valuation_of s = valuation s.engine.trail

-- A search between two checks, beside the clauses and the steps of a log: what it keeps are clauses of the log, of steps that are no chains
-- and of chains that were taken, and what it holds of them is of its opening positions, or was taken. Of its opening positions it holds
-- every clause, and has listed the variables.
pub record IsResting (s : Search) (rows : List (List (List Literal))) (log : List Entry) : Type 0 where
  pub engine : IsEngine s.engine
  pub sound : (id : ClauseId) (c : List Literal) → clause_of s.engine.watches id ≡ Some c → clause_at rows id ≡ Some c
  pub covered : (id : ClauseId) (c : List Literal) → held_of s.engine.watches id ≡ Some c → Contains s.opening.items id.pos ⊎ Contains s.taken.items id.pos
  pub plain : (p : ℕ) → Contains s.opening.items p → (p ≤ length log) × (is_chain (entry_at log p) ≡ false)
  pub chains : (p : ℕ) → Contains s.taken.items p → is_chain (entry_at log p) ≡ true
  pub stored : AreStored (clause_of s.engine.watches) log s.taken.items
  pub whole : (id : ClauseId) (c : List Literal) → Contains s.opening.items id.pos → clause_at rows id ≡ Some c → held_of s.engine.watches id ≡ Some c
  pub told : IsTold rows s.engine.agenda.list s.opening.items s.ends.items

-- a search of a log
abbrev pub IsSearch : Search → List Node → List Entry → Type 0
IsSearch s nodes log =
    IsEngine s.engine
    × IsSearchOf s.engine.watches (variables_in s) s.opening.items s.taken.items s.from s.seen nodes log
    × IsTold (state_of nodes log).clauses (variables_in s) s.opening.items s.ends.items

-- it decides its given literals first
abbrev pub IsRunning : Search → List Node → List Entry → Type 0
IsRunning s nodes log =
    IsEngine s.engine
    × IsSearchOf s.engine.watches (variables_in s) s.opening.items s.taken.items s.from s.seen nodes log
    × IsOnCourse s.engine
    × AreBelow (state_of nodes log).next (given_in s)

abbrev pub subject_of : Search → List Node → List Entry → Subject
subject_of s nodes log = record { nodes = nodes; log = log; given = given_in s; from = s.from }

-- its diary is kept
abbrev pub IsWriting : Search → List Node → List Entry → Type 0
IsWriting s nodes log = IsKept (subject_of s nodes log) s.engine.watches (variables_in s) s.diary s.seen

-- and of the search's own steps all that are no chains' are held, equalities among them, so that a clause may be put
abbrev pub IsReadyToPut : Search → List Node → List Entry → Type 0
IsReadyToPut s nodes log = IsWriting s nodes log × AreOwnHeld log s.opening.items s.from

-- and each chain that is known, which was seen, has a line in the diary
abbrev pub IsUpToDate : Search → List Node → List Entry → (ℕ → Type 0) → Type 0
IsUpToDate s nodes log knows = IsReadyToPut s nodes log × AreImported s.diary.lines.items log knows s.diary.start × ((p : ℕ) → knows p → p ≤ length log)

-- the board told all that it has seen
abbrev pub IsCaughtUp : Sync → List Entry → Type 0
IsCaughtUp told log = told.upto ≡ suc (length log)

-- The search has looked: the board told it of this log, and of each chain that the search kept.
pub record HasLooked (s : Search) (log : List Entry) (told : Sync) : Type 0 where
  pub before : length log < told.upto
  pub kept : (p : ℕ) → Contains s.taken.items p → p < told.upto

-- what a run leaves as it is
pub record IsSameRun (old new : Search) : Type 0 where
  pub opening : new.opening ≡ old.opening
  pub ends : new.ends ≡ old.ends
  pub from : new.from ≡ old.from
  pub given : new.engine.given ≡ old.engine.given
  pub listed : new.engine.agenda.list ≡ old.engine.agenda.list

-- a clause that was learnt from a conflict, put at this position, and is unit at the end of this lower level
pub record IsLearnt (w : Watches) (t : Trail) (old new : List Entry) (clause : List Literal) (level at : ℕ) : Type 0 where
  pub hints : List ClauseId
  pub put : IsPutAt old (step.Chain clause hints) at new
  pub good : IsGoodPut (clause_of w) (held_of w) (literals_of t) (level_of t) clause hints
  pub among : (l : Literal) → Contains clause l → StandsIn (held_of w) hints l
  pub lower : level < level_of t
  pub unit : IsUnitAfter (literals_of t) level clause

-- the clause is held under this name beside the others, the trail went back to the level and the clause came
pub record IsKeptAt (old new : Search) (clause : List Literal) (level at : ℕ) : Type 0 where
  pub kept : clause_of new.engine.watches (record { pos = at; part = 0 }) ≡ Some clause
  pub held : held_of new.engine.watches (record { pos = at; part = 0 }) ≡ Some clause
  pub others : IsSameBut (record { pos = at; part = 0 }) old.engine.watches new.engine.watches
  pub taken : new.taken.items ≡ old.taken.items ++ at ∷ []
  pub seen : new.seen ≡ old.seen
  pub start : new.diary.start ≡ old.diary.start
  pub lines : new.diary.lines.items ≡ old.diary.lines.items ++ Put at ∷ []
  pub puts : new.diary.puts ≡ old.diary.puts + 1
  pub chains : new.diary.chains ≡ old.diary.chains + 1
  pub left : new.diary.left ≡ allowed new.diary.puts new.diary.chains

-- Behind the opening positions came further ones, of equalities and lemmas, with all their clauses; each has a line in the diary. Chains
-- are kept as before.
pub record IsAdding (nodes : List Node) (log : List Entry) (old new : Search) : Type 0 where
  pub opening : IsLonger old.opening.items new.opening.items
  pub only : (p : ℕ) → Contains new.opening.items p → Contains old.opening.items p ⊎ (is_theory (entry_at log p) ≡ true)
  pub filling : IsFilling new.engine.watches (state_of nodes log).clauses (variables_in new) new.opening.items new.ends.items new.opening.items new.taken.items
  pub came : (id : ClauseId) (c : List Literal) → clause_of new.engine.watches id ≡ Some c → (clause_of old.engine.watches id ≡ Some c) ⊎ Contains new.opening.items id.pos
  pub chains : (id : ClauseId) → is_chain (entry_at log id.pos) ≡ true → clause_of new.engine.watches id ≡ clause_of old.engine.watches id
  pub noted : (given : List Literal) (from : ℕ) → IsNotedMore (record { nodes = nodes; log = log; given = given; from = from }) old.diary new.diary old.opening.items new.opening.items
  pub taken : new.taken ≡ old.taken
  pub from : new.from ≡ old.from
  pub seen : new.seen ≡ old.seen
  pub given : new.engine.given ≡ old.engine.given
