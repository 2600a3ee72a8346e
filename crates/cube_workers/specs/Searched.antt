-- What the search of a check's cubes has and finds.
use Rattle.std.specs.Prelude.{◌≡◌, ◌≤◌, ◌<◌, ◌^◌, ◌⊎◌, ℕ, suc, Bool, true, false, List, [], ◌++◌, Option, Some, None, All, Contains, length}
use Rattle.cnf_base.specs.Literals.{Literal}
use Rattle.cnf_base.specs.Assignments.{AreBelow}
use Rattle.hint_chain.specs.Chains.{Lookup}
use Rattle.smt_terms.specs.declared.node.Node.{Node}
use Rattle.proof_log.specs.declared.entry.Entry.{Entry}
use Rattle.proof_log.specs.declared.diary.Diary.{Diary}
use Rattle.proof_log.specs.Logs.{clause_at, entry_at, state_of}
use Rattle.proof_log.specs.Stored.{LogValue}
use Rattle.proof_log.specs.Boards.{LogBoardValue}
use Rattle.proof_log.specs.Diaries.{Subject, IsSpent, is_chain}
use Rattle.cube_tree.specs.Cubes.{cube_of}
use Rattle.cube_tree.specs.Closing.{Closes, AreClosing}
use Rattle.cube_search.specs.Holding.{AreSeparate}
use Rattle.cube_search.specs.Keeping.{IsInOrder}
use Rattle.cube_search.specs.Running.{IsSearch, IsResting}
use Rattle.cube_search.specs.Ends.{IsModel}
use Rattle.cube_search.specs.declared.search.Search.{Search}
use Rattle.cube_search.specs.declared.ends.End.{End}
use Rattle.cube_search.specs.declared.ends.End.TheVariants as end
use Rattle.cube_workers.specs.declared.outcome.Outcome.{Outcome}
use Rattle.cube_workers.specs.declared.outcome.Outcome.TheVariants as outcome

-- What is searched: the clauses of these positions of a log, under the literals that are assumed and those of each cube over
-- the variables. A search puts its chains from a position on, one more than the budget at the most.
pub record Problem : Type 0 where
  pub nodes : List Node
  pub positions : List ℕ
  pub from : ℕ
  pub variables : List ℕ
  pub assumed : List Literal
  pub budget : ℕ

-- the problem of a check whose searches put their chains behind this log
abbrev pub problem : List Node → List Entry → List ℕ → List ℕ → List Literal → ℕ → Problem
problem nodes log positions variables assumed budget = record { nodes = nodes; positions = positions; from = suc (length log); variables = variables; assumed = assumed; budget = budget }

-- the problem that a search is about, over the terms of a board
abbrev pub problem_of : Search → LogBoardValue → List ℕ → List Literal → ℕ → Problem
problem_of s board variables assumed budget = record { nodes = board.terms.nodes; positions = s.opening.items; from = s.from; variables = variables; assumed = assumed; budget = budget }

-- the clauses of a log over the problem's terms
abbrev pub look_in : Problem → List Entry → Lookup
look_in p log = clause_at (state_of p.nodes log).clauses

-- what the search of a cube takes as true
abbrev pub given_in : Problem → ℕ → List Literal
given_in p cube = cube_of p.variables cube ++ p.assumed

-- what the diary of a cube is about, which starts at this position
abbrev pub subject_in : Problem → List Entry → ℕ → ℕ → Subject
subject_in p log cube start = record { nodes = p.nodes; log = log; given = given_in p cube; from = start }

-- The positions are before the searches' own, from which on there are chains alone, and no chains'. Each clause of another step
-- has a variable that stands in no clause of theirs. The literals are those of variables that there are.
pub record IsProblem (p : Problem) (log : List Entry) : Type 0 where
  pub positions : (at : ℕ) → Contains p.positions at → at < p.from
  pub begun : 0 < p.from
  pub from : p.from ≤ suc (length log)
  pub plain : (at : ℕ) → Contains p.positions at → is_chain (entry_at log at) ≡ false
  pub chains : (at : ℕ) (e : Entry) → p.from ≤ at → entry_at log at ≡ Some e → is_chain (Some e) ≡ true
  pub separate : AreSeparate (state_of p.nodes log).clauses log p.positions p.from
  pub variables : All (λ x. x < (state_of p.nodes log).next) p.variables
  pub assumed : AreBelow (state_of p.nodes log).next p.assumed

-- a search of the board's log that is about such a problem
pub record IsSearching (s : Search) (board : LogBoardValue) (variables : List ℕ) (assumed : List Literal) (budget : ℕ) : Type 0 where
  pub search : IsSearch s board.terms.nodes board.log.entries
  pub problem : IsProblem (problem_of s board variables assumed budget) board.log.entries

-- The search of a cube put one chain more than the budget allows. From the start of its diary on equalities are taken before what is put
-- behind them.
pub record IsSpentCube (p : Problem) (log : List Entry) (d : Diary) : Type 0 where
  pub cube : d.cube < 2 ^ length p.variables
  pub start : p.from ≤ d.start
  pub within : d.start ≤ suc (length log)
  pub spent : IsSpent (subject_in p log d.cube d.start) p.budget d.lines
  pub order : IsInOrder log d.start d.lines

-- the cube is closed by a clause of opposites of its literals and of what is assumed
abbrev pub IsClosed : Problem → List Entry → ℕ → Type 0
IsClosed p log cube = (at : ℕ) × Closes (look_in p log) p.assumed (cube_of p.variables cube) at

-- the search of the cube came to an end without a model: the cube is closed, or spent
abbrev pub IsSearchedCube : Problem → List Entry → ℕ → Type 0
IsSearchedCube p log n = IsClosed p log n ⊎ ((d : Diary) × (d.cube ≡ n) × IsSpentCube p log d)

-- of the cubes below a number no lower one is spent, and each later one was searched too
pub record IsLowestSpent (p : Problem) (log : List Entry) (count : ℕ) (d : Diary) : Type 0 where
  pub own : IsSpentCube p log d
  pub lower : (n : ℕ) → n < d.cube → IsClosed p log n
  pub later : (n : ℕ) → d.cube < n → n < count → IsSearchedCube p log n

-- the assignment makes true the clauses of the positions and what is assumed
abbrev pub IsModelOf : Problem → List Entry → (ℕ → Bool) → Type 0
IsModelOf p log v = IsModel (state_of p.nodes log).clauses p.positions p.assumed v

-- what the search of a cube came to, over the log and with the values of the variables then; no other search finds a model meanwhile
abbrev pub IsEndOf : Problem → List Entry → (ℕ → Bool) → ℕ → End → Type 0
IsEndOf p log v cube (end.Closed at) = Closes (look_in p log) p.assumed (cube_of p.variables cube) at
IsEndOf p log v cube end.Model = IsModelOf p log v
IsEndOf p log v cube (end.Spent d) = (d.cube ≡ cube) × IsSpentCube p log d
IsEndOf p log v cube end.Stopped = ⊥

-- What the cubes below a number came to, where none gave a model: each is closed at its position, or one of them is the lowest
-- that is spent, and the later ones were searched too.
abbrev pub AreTried : Problem → List Entry → ℕ → List ℕ → Option Diary → Type 0
AreTried p log count closed None = (length closed ≡ count) × AreClosing (look_in p log) p.assumed p.variables closed
AreTried p log count closed (Some d) = IsLowestSpent p log count d

-- what is found: a clause of opposites of what is assumed alone, a model, or the diary of the lowest spent cube
abbrev pub IsFound : Problem → List Entry → (ℕ → Bool) → Outcome → Type 0
IsFound p log v (outcome.Unsat at) = Closes (look_in p log) p.assumed [] at
IsFound p log v outcome.Sat = IsModelOf p log v
IsFound p log v (outcome.Unknown d) = IsLowestSpent p log (2 ^ length p.variables) d

-- the search keeps clauses of the log
abbrev pub RestsBeside : LogValue → Search → Type 0
RestsBeside log x = IsResting x log.clauses log.entries
