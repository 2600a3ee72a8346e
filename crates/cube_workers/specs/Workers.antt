-- Workers, before and after their work.
use Rattle.std.specs.Prelude.{◌≡◌, ◌<◌, ◌≤◌, ◌^◌, ℕ, Bool, true, false, List, [], Option, Some, None, Contains, length, slice_index_or}
use Rattle.cnf_base.specs.Literals.{Literal}
use Rattle.proof_log.specs.declared.diary.Diary.{Diary}
use Rattle.proof_log.specs.declared.entry.Entry.{Entry}
use Rattle.smt_terms.specs.declared.node.Node.{Node}
use Rattle.proof_log.specs.Logs.{state_of}
use Rattle.cube_tree.specs.Cubes.{cube_of}
use Rattle.cube_tree.specs.Closing.{Closes}
use Rattle.cube_search.specs.declared.search.Search.{Search}
use Rattle.cube_search.specs.declared.ends.End.{End}
use Rattle.cube_search.specs.declared.ends.End.TheVariants as end
use Rattle.cube_search.specs.Running.{valuation_of, IsResting, IsSearch}
use Rattle.hub_core.specs.declared.events.Call.{Call}
use Rattle.hub_core.specs.declared.events.Call.TheVariants.{Spend, Found}
use Rattle.hub_core.specs.Hubs.{HubValue, has_next}
use Rattle.hub_board.specs.Boards.{BoardValue, view_in, told}
use Rattle.hub_board.specs.Cubes.{IsIdle}
use Rattle.cube_workers.specs.declared.check.Check.{Check}
use Rattle.cube_workers.specs.declared.worker.Reached.{Reached}
use Rattle.cube_workers.specs.declared.worker.Reached.TheVariants as reached
use Rattle.cube_workers.specs.Searched.{Problem, problem, look_in, IsProblem, IsSpentCube, IsModelOf}

-- the problem of a check over a log
abbrev pub problem_over : List Node → List Entry → Check → Problem
problem_over nodes log k = problem nodes log k.positions.now k.tree.now k.assumed.now k.settings.budget

-- the problem of a check over an opened hub
abbrev pub problem_in : HubValue → Check → Problem
problem_in law k = problem_over law.nodes law.log.entries k

-- A hub that was opened for the check: its cubes are those over the variables of the tree.
pub record IsOpenFor (law : HubValue) (k : Check) : Type 0 where
  pub count : length law.cubes ≡ 2 ^ length k.tree.now
  pub each : (n : ℕ) (d : List Literal) → n < length law.cubes → slice_index_or law.cubes n d ≡ cube_of k.tree.now n
  pub assumed : law.assumed ≡ k.assumed.now
  pub valid : IsProblem (problem_in law k) law.log.entries

-- a search of the board's log that is about the problem
pub record IsAbout (s : Search) (b : BoardValue) (p : Problem) : Type 0 where
  pub search : IsSearch s b.hist.law.nodes (view_in b).log
  pub positions : s.opening.items ≡ p.positions
  pub from : s.from ≡ p.from

-- what the search of a cube came to, over the board's log and with the values of the variables then
abbrev pub IsCubeEnd : Problem → BoardValue → (ℕ → Bool) → ℕ → End → Type 0
IsCubeEnd p b v cube (end.Closed at) = Closes (look_in p (view_in b).log) p.assumed (cube_of p.variables cube) at
IsCubeEnd p b v cube end.Model = IsModelOf p (view_in b).log v
IsCubeEnd p b v cube (end.Spent d) = (d.cube ≡ cube) × IsSpentCube p (view_in b).log d
IsCubeEnd p b v cube end.Stopped = (view_in b).found ≡ true

-- the pass has told of no model
abbrev pub IsQuiet : List Call → Type 0
IsQuiet calls = (c : ℕ) → Contains calls (Found c) → ⊥

-- the search of the cube put one chain more than the budget allows
abbrev pub HasSpent : Problem → List Entry → ℕ → Type 0
HasSpent p log c = (d : Diary) × (d.cube ≡ c) × IsSpentCube p log d

-- what the pass has told of spent cubes: the diary is that of the lowest
abbrev pub IsSpentBy : Problem → BoardValue → Option Diary → Type 0
IsSpentBy p b None = (c : ℕ) → Contains (told b.pass.mine) (Spend c) → ⊥
IsSpentBy p b (Some d) = IsSpentCube p (view_in b).log d × ((c : ℕ) → Contains (told b.pass.mine) (Spend c) → (d.cube ≤ c) × HasSpent p (view_in b).log c)

-- How a worker ended: it had no cube open and none was left, or another worker had found a model; or it found one, which the
-- values of its search are.
abbrev pub IsReached : Problem → BoardValue → Option Diary → Search → Reached → Type 0
IsReached p b spent s reached.Done = IsIdle b × IsQuiet (told b.pass.mine) × IsSpentBy p b spent × (has_next b.hist.law (view_in b) ≡ false)
IsReached p b spent s reached.Stopped = IsQuiet (told b.pass.mine) × ((view_in b).found ≡ true)
IsReached p b spent s reached.Model = IsModelOf p (view_in b).log (valuation_of s)
IsReached p b spent s reached.NoMemory = Unit {0}

-- the search keeps clauses of the board's log
abbrev pub RestsOn : BoardValue → Search → Type 0
RestsOn b s = IsResting s (state_of b.hist.law.nodes (view_in b).log).clauses (view_in b).log

-- so it is where the worker had memory
abbrev pub RestsAfter : BoardValue → Search → Reached → Type 0
RestsAfter b s reached.Done = RestsOn b s
RestsAfter b s reached.Stopped = RestsOn b s
RestsAfter b s reached.Model = RestsOn b s
RestsAfter b s reached.NoMemory = Unit {0}

-- the pass has made no call, and seen nothing
abbrev pub IsFresh : BoardValue → Type 0
IsFresh b = (b.pass.mine ≡ []) × (b.pass.seen ≡ [])
