-- Workers, before and after their work, and what they came to once their passes are merged.
use Rattle.std.specs.Prelude.{◌≡◌, ◌+◌, ℕ, suc, Bool, List, Option, Contains, length}
use Rattle.shared_history.specs.Events.{StartsWith}
use Rattle.shared_history.specs.Known.{Story, Known}
use Rattle.proof_log.specs.declared.diary.Diary.{Diary}
use Rattle.hub_core.specs.declared.events.Event.{Event}
use Rattle.hub_core.specs.Hubs.{HubValue}
use Rattle.hub_board.specs.Boards.{BoardValue}
use Rattle.hub_board.specs.Cubes.{IsOn}
use Rattle.cube_workers.specs.declared.check.Check.{Check}
use Rattle.cube_workers.specs.declared.kept.KeptSearch.{KeptSearch}
use Rattle.cube_workers.specs.declared.crew.Worker.{Worker}
use Rattle.cube_workers.specs.Searched.{Problem, RestsBeside}
use Rattle.cube_workers.specs.Workers.{problem_in, IsOpenFor, IsReached, RestsAfter, IsFresh}
use Rattle.cube_workers.specs.Crews.{Each, Left, IsLeft, AreKept, IsLowest}

-- The worker has done nothing. Its hub was opened for its check, and its search rests beside the opening log.
pub record IsReady {R : Type 0} (w : Worker R) : Type 0 where
  pub fresh : IsFresh w.board
  pub open_for : IsOpenFor w.board.hist.law w.check
  pub resting : RestsBeside w.board.hist.law.log w.kept.search

-- a worker, before and after its work
pub record HasWorked {R : Type 0} (v w : Worker R) : Type 0 where
  pub on : IsOn v.board w.board
  pub reached : IsReached (problem_in v.board.hist.law v.check) w.board w.spent w.kept.search w.reached
  pub resting : RestsAfter w.board w.kept.search w.reached

-- the worker at this place, from 0 on, that was hired for the check: its pass has the number of the next place
pub record IsHired {R : Type 0} (hist : Story HubValue) (k : Check) (n : ℕ) (w : Worker R) : Type 0 where
  pub hist_is : w.board.hist ≡ hist
  pub check_is : w.check ≡ k
  pub number : w.board.pass.number ≡ suc n
  pub fresh : IsFresh w.board
  pub resting : RestsBeside hist.law.log w.kept.search

-- so it has ended
pub record HasEnded {R : Type 0} (hist : Story HubValue) (k : Check) (n : ℕ) (w : Worker R) : Type 0 where
  pub hist_is : w.board.hist ≡ hist
  pub number : w.board.pass.number ≡ suc n
  pub reached : IsReached (problem_in hist.law k) w.board w.spent w.kept.search w.reached
  pub resting : RestsAfter w.board w.kept.search w.reached

-- what is left of workers whose passes were merged into this one, those of the highest numbers first
abbrev pub AreMerged : HubValue → Problem → ℕ → Known HubValue Event → List Left → Type 0
AreMerged law p count first xs = Each (λ k x. (n : ℕ) → n + k ≡ count → (b : BoardValue) × IsLeft law p n b x × StartsWith first.seen b.pass.seen × Contains first.ended (n, b.pass.mine)) xs

-- this is left of so many workers, whose passes were merged into this one, and they came to this together
pub record AreGathered (law : HubValue) (p : Problem) (count : ℕ) (first : Known HubValue Event) (searches : List KeptSearch) (model : Option ℕ) (wanting : Bool) (spent : Option Diary) (xs : List Left) : Type 0 where
  pub long : length xs ≡ count
  pub merged : AreMerged law p count first xs
  pub kept : AreKept searches model wanting xs
  pub lowest : IsLowest spent xs
