-- A hub that was opened for a check, and whose history is closed.
use Rattle.std.specs.Prelude.{◌≡◌, ◌<◌, ◌^◌, ℕ, suc, Bool, List, [], Option, length}
use Rattle.std.specs.List.{AllByRecursion}
use Rattle.shared_history.specs.Events.{of_pass}
use Rattle.smt_terms.specs.declared.node.Node.{Node}
use Rattle.proof_log.specs.declared.diary.Diary.{Diary}
use Rattle.proof_log.specs.declared.entry.Entry.{Entry}
use Rattle.hub_core.specs.declared.events.Event.{Event}
use Rattle.hub_core.specs.Hubs.{HubValue, IsOpening, IsHistory, view_of, by_of}
use Rattle.hub_board.specs.Chains.{AddChains}
use Rattle.cube_workers.specs.declared.check.Check.{Check}
use Rattle.cube_workers.specs.declared.kept.KeptSearch.{KeptSearch}
use Rattle.cube_workers.specs.Workers.{problem_in, IsOpenFor}
use Rattle.cube_workers.specs.Searched.{Problem, AreTried}
use Rattle.cube_workers.specs.Histories.{ArePlaces}
use Rattle.cube_workers.specs.Crews.{Left, AreLeft, AreKept, IsLowest}

-- The hub over these terms was opened for the check. The log is what its whole history made.
pub record IsClosedHub (law : HubValue) (k : Check) (nodes : List Node) (log : List Entry) (all : List Event) : Type 0 where
  pub nodes_are : law.nodes ≡ nodes
  pub opened : IsOpening law
  pub open_for : IsOpenFor law k
  pub made : IsHistory law all
  pub chains : AddChains all
  pub log_is : log ≡ (view_of law all).log

-- All events are of so many workers, one at least. This is what is left of them, and what they came to together.
pub record IsSumOf (law : HubValue) (k : Check) (all : List Event) (searches : List KeptSearch) (model : Option ℕ) (wanting : Bool) (spent : Option Diary) (count : ℕ) (xs : List Left) : Type 0 where
  pub some : 0 < count
  pub long : length xs ≡ count
  pub first : of_pass by_of 0 all ≡ []
  pub below : AllByRecursion (λ e. by_of e < suc count) all
  pub left : AreLeft law (problem_in law k) count all xs
  pub kept : AreKept searches model wanting xs
  pub lowest : IsLowest spent xs

-- where these events closed each cube is what all cubes came to; or this is the lowest cube that is spent
abbrev pub AreAllTried : HubValue → Problem → List ℕ → List Event → List Entry → Option Diary → Type 0
AreAllTried law p variables all log spent = (closed : List ℕ) → length closed ≡ 2 ^ length variables → ArePlaces law all closed → AreTried p log (2 ^ length variables) closed spent
