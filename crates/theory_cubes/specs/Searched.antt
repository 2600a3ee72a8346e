-- What the search of a check's cubes has and finds, with functions and arrays.
use Rattle.std.specs.Prelude.{◌≡◌, ◌≤◌, ◌<◌, ◌^◌, ◌⊎◌, ℕ, suc, Bool, false, List, [], ◌++◌, Option, Some, None, All, Contains, length}
use Rattle.cnf_base.specs.Literals.{Literal}
use Rattle.cnf_base.specs.Assignments.{AreBelow}
use Rattle.cnf_base.specs.declared.clause.ClauseId.{ClauseId}
use Rattle.hint_chain.specs.Chains.{Lookup}
use Rattle.smt_terms.specs.declared.node.Node.{Node}
use Rattle.smt_terms.specs.Values.{Interpretation}
use Rattle.smt_values.specs.Held.{interpretation_of}
use Rattle.proof_log.specs.declared.entry.Entry.{Entry}
use Rattle.proof_log.specs.declared.diary.Diary.{Diary}
use Rattle.proof_log.specs.Logs.{clause_at, entry_at, state_of}
use Rattle.proof_log.specs.Stored.{LogValue}
use Rattle.proof_log.specs.Boards.{LogBoardValue}
use Rattle.proof_log.specs.Diaries.{Subject, IsSpent, is_chain}
use Rattle.cube_tree.specs.Cubes.{cube_of}
use Rattle.cube_tree.specs.Closing.{Closes, AreClosing}
use Rattle.cube_search.specs.Holding.{IsLonger, Occurs}
use Rattle.cube_search.specs.Keeping.{IsInOrder}
use Rattle.cube_search.specs.Running.{IsSearch, IsResting}
use Rattle.cube_search.specs.declared.search.Search.{Search}
use Rattle.theory_search.specs.declared.theory.Theory.{Theory}
use Rattle.theory_search.specs.declared.ends.End.{End}
use Rattle.theory_search.specs.declared.ends.End.TheVariants as end
use Rattle.theory_search.specs.Theories.{Reached, IsTheory, IsTheoryApart}
use Rattle.theory_search.specs.Ends.{IsModelOf}
use Rattle.theory_cubes.specs.declared.check.TheoryCheck.{TheoryCheck}
use Rattle.theory_cubes.specs.declared.outcome.Outcome.{Outcome}
use Rattle.theory_cubes.specs.declared.outcome.Outcome.TheVariants as outcome

-- ---- what is searched

-- What is searched: the clauses of these positions of a log, under the literals that are assumed and those of each cube over
-- the variables, and which terms have values in a model. What a search puts stands from a position on; of its chains it puts one
-- more than the budget at the most.
pub record Problem : Type 0 where
  pub nodes : List Node
  pub live : List ℕ
  pub positions : List ℕ
  pub from : ℕ
  pub variables : List ℕ
  pub assumed : List Literal
  pub budget : ℕ

-- the problem of a check whose searches put their steps from this position on
abbrev pub problem : List Node → ℕ → TheoryCheck → Problem
problem nodes from k = record { nodes = nodes; live = k.live.now; positions = k.positions.now; from = from; variables = k.tree.now; assumed = k.assumed.now; budget = k.budget }

-- of one whose searches put them behind this log
abbrev pub problem_over : List Node → List Entry → TheoryCheck → Problem
problem_over nodes log k = problem nodes (suc (length log)) k

-- the clauses of a log over the problem's terms
abbrev pub look_in : Problem → List Entry → Lookup
look_in p log = clause_at (state_of p.nodes log).clauses

-- what the search of a cube takes as true
abbrev pub given_in : Problem → ℕ → List Literal
given_in p cube = cube_of p.variables cube ++ p.assumed

-- what the diary of a cube is about, which starts at this position
abbrev pub subject_in : Problem → List Entry → ℕ → ℕ → Subject
subject_in p log cube start = record { nodes = p.nodes; log = log; given = given_in p cube; from = start }

-- The positions are before the searches' own, and no chains'. The literals are those of variables that there are.
pub record IsProblem (p : Problem) (log : List Entry) : Type 0 where
  pub positions : (at : ℕ) → Contains p.positions at → at < p.from
  pub from : p.from ≤ suc (length log)
  pub plain : (at : ℕ) → Contains p.positions at → is_chain (entry_at log at) ≡ false
  pub variables : All (λ x. x < (state_of p.nodes log).next) p.variables
  pub assumed : AreBelow (state_of p.nodes log).next p.assumed

-- a term that the live terms reach has the variable among its bits
abbrev pub IsOfReached : List Node → List Entry → List ℕ → ℕ → Type 0
IsOfReached nodes log live x = (t : ℕ) × (row : List Literal) × (l : Literal) × Reached nodes log live t × ((state_of nodes log).bits t ≡ Some row) × Contains row l × (l.variable ≡ x)

-- A search over these positions needs no other clause, whatever equalities and lemmas it takes: each clause of a step that is no
-- chain's, at another position, has a variable that stands in no clause of theirs, and is of no bit of a term that the live terms
-- reach.
abbrev pub AreApart : List Node → List Entry → List ℕ → List ℕ → Type 0
AreApart nodes log live positions =
    (id : ClauseId) (c : List Literal) → is_chain (entry_at log id.pos) ≡ false → clause_at (state_of nodes log).clauses id ≡ Some c →
    Contains positions id.pos ⊎ ((l : Literal) × Contains c l × (Occurs (state_of nodes log).clauses positions l.variable → ⊥) × (IsOfReached nodes log live l.variable → ⊥))

-- ---- what is found

-- The search of a cube put one chain more than the budget allows. Its diary begins where the searches' own steps do, and takes the
-- equalities among these before what is put behind them.
pub record IsSpentCube (p : Problem) (log : List Entry) (d : Diary) : Type 0 where
  pub cube : d.cube < 2 ^ length p.variables
  pub start : d.start ≡ p.from
  pub within : d.start ≤ suc (length log)
  pub spent : IsSpent (subject_in p log d.cube d.start) p.budget d.lines
  pub order : IsInOrder log d.start d.lines

-- the cube is closed by a clause of opposites of its literals and of what is assumed
abbrev pub IsClosed : Problem → List Entry → ℕ → Type 0
IsClosed p log cube = (at : ℕ) × Closes (look_in p log) p.assumed (cube_of p.variables cube) at

-- the search of the cube came to an end without a model: the cube is closed, or spent
abbrev pub IsSearchedCube : Problem → List Entry → ℕ → Type 0
IsSearchedCube p log n = IsClosed p log n ⊎ ((d : Diary) × (d.cube ≡ n) × IsSpentCube p log d)

-- of the cubes below a number no lower one is spent, and each later one was searched too
pub record IsLowestSpent (p : Problem) (log : List Entry) (count : ℕ) (d : Diary) : Type 0 where
  pub own : IsSpentCube p log d
  pub lower : (n : ℕ) → n < d.cube → IsClosed p log n
  pub later : (n : ℕ) → d.cube < n → n < count → IsSearchedCube p log n

-- The interpretation gives the terms that the live ones reach the values of their bits under an assignment, which makes true the
-- clauses of the positions and what is assumed.
abbrev pub HasModel : Problem → List Entry → Interpretation → Type 0
HasModel p log m = (v : ℕ → Bool) × IsModelOf (record { nodes = p.nodes; log = log; given = p.assumed; from = p.from }) p.live p.positions v m

-- what is found: a clause of opposites of what is assumed alone, a model, or the diary of the lowest spent cube
abbrev pub IsFound : Problem → List Entry → Outcome → Type 0
IsFound p log (outcome.Unsat at) = Closes (look_in p log) p.assumed [] at
IsFound p log (outcome.Sat m) = HasModel p log (interpretation_of m)
IsFound p log (outcome.Unknown d) = IsLowestSpent p log (2 ^ length p.variables) d

-- the search keeps clauses of the log
abbrev pub RestsBeside : LogValue → Search → Type 0
RestsBeside log x = IsResting x log.clauses log.entries

-- ---- on the way

-- A search that is about the problem, beside a board of its log, with what is kept for its walks. It holds the problem's positions,
-- and behind them those of equalities and lemmas that it took.
pub record IsSearching (p : Problem) (s : Search) (t : Theory) (board : LogBoardValue) : Type 0 where
  pub search : IsSearch s p.nodes board.log.entries
  pub theory : IsTheory p.nodes board.log.entries s.opening.items t
  pub apart : IsTheoryApart p.nodes board.log.entries t s
  pub live : t.live.items ≡ p.live
  pub longer : IsLonger p.positions s.opening.items
  pub from : s.from ≡ p.from
  pub within : p.from ≤ suc (length board.log.entries)
  pub variables : All (λ x. x < (state_of p.nodes board.log.entries).next) p.variables
  pub assumed : AreBelow (state_of p.nodes board.log.entries).next p.assumed

-- the same end, but the diary of a spent cube starts at this position
abbrev pub StartsAt : ℕ → End → End → Type 0
StartsAt from (end.Closed p) e = e ≡ end.Closed p
StartsAt from (end.Model m) e = e ≡ end.Model m
StartsAt from (end.Spent d) e = e ≡ end.Spent (record { cube = d.cube; start = from; lines = d.lines })
StartsAt from end.Stopped e = e ≡ end.Stopped

-- what the search of a cube came to, over the log then; no other search finds a model meanwhile
abbrev pub IsEndOf : Problem → List Entry → ℕ → End → Type 0
IsEndOf p log cube (end.Closed at) = Closes (look_in p log) p.assumed (cube_of p.variables cube) at
IsEndOf p log cube (end.Model m) = HasModel p log (interpretation_of m)
IsEndOf p log cube (end.Spent d) = (d.cube ≡ cube) × IsSpentCube p log d
IsEndOf p log cube end.Stopped = ⊥

-- What the cubes below a number came to, where none gave a model: each is closed at its position, or one of them is the lowest
-- that is spent, and the later ones were searched too.
abbrev pub AreTried : Problem → List Entry → ℕ → List ℕ → Option Diary → Type 0
AreTried p log count closed None = (length closed ≡ count) × AreClosing (look_in p log) p.assumed p.variables closed
AreTried p log count closed (Some d) = IsLowestSpent p log count d
