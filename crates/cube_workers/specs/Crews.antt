-- What is left of workers that have ended, and what they came to together.
use Rattle.std.specs.Prelude.{◌≡◌, ◌≢◌, ◌⊎◌, ◌≤◌, ◌+◌, ℕ, Bool, false, List, Option, Some, None, length, slice_get}
use Rattle.cnf_base.specs.Literals.{Literal}
use Rattle.shared_history.specs.Events.{of_pass, StartsWith}
use Rattle.proof_log.specs.declared.diary.Diary.{Diary}
use Rattle.proof_log.specs.declared.entry.Entry.{Entry}
use Rattle.proof_log.specs.Stored.{LogValue}
use Rattle.cube_search.specs.Running.{IsResting, valuation_of}
use Rattle.hub_core.specs.declared.events.Event.{Event}
use Rattle.hub_core.specs.Hubs.{HubValue, by_of}
use Rattle.hub_board.specs.Boards.{BoardValue, IsBoard}
use Rattle.cube_workers.specs.declared.kept.KeptSearch.{KeptSearch}
use Rattle.cube_workers.specs.declared.worker.Reached.{Reached}
use Rattle.cube_workers.specs.declared.worker.Reached.TheVariants as reached
use Rattle.cube_workers.specs.Searched.{Problem, RestsBeside}
use Rattle.cube_workers.specs.Workers.{IsReached, RestsAfter}

-- each has this by its place, from 0 on
abbrev pub Each : {X : Type 0} → (ℕ → X → Type 0) → List X → Type 0
Each {X} P xs = (k : ℕ) (x : X) → slice_get xs k ≡ Some x → P k x

-- ---- what is left of workers

-- the search of a worker, the lowest cube that it told as spent, and how it ended
pub record Left : Type 0 where
  pub kept : KeptSearch
  pub spent : Option Diary
  pub reached : Reached

-- the board of the worker with the pass of this number, when it ended
pub record IsLeft (law : HubValue) (p : Problem) (n : ℕ) (b : BoardValue) (x : Left) : Type 0 where
  pub law_is : b.hist.law ≡ law
  pub number : b.pass.number ≡ n
  pub valid : IsBoard b
  pub reached : IsReached p b x.spent x.kept.search x.reached
  pub resting : RestsAfter b x.kept.search x.reached

-- what is left of so many workers after this history, which has the events of each, those of the highest numbers first
abbrev pub AreLeft : HubValue → Problem → ℕ → List Event → List Left → Type 0
AreLeft law p count all xs = Each (λ k x. (n : ℕ) → n + k ≡ count → (b : BoardValue) × IsLeft law p n b x × StartsWith all b.pass.seen × (of_pass by_of n all ≡ b.pass.mine)) xs

-- ---- what they came to together

-- none found a model; or this one of the searches is of the worker of the lowest number that did
abbrev pub IsModelAmong : Option ℕ → List KeptSearch → List Left → Type 0
IsModelAmong None searches xs = Each (λ k x. x.reached ≢ reached.Model) xs
IsModelAmong (Some i) searches xs = (k : ℕ) × (x : Left) × (slice_get xs k ≡ Some x) × (x.reached ≡ reached.Model) × (slice_get searches i ≡ Some x.kept) × Each (λ j y. y.reached ≡ reached.Model → j ≤ k) xs

-- the search rests beside every log
abbrev pub RestsAnywhere : KeptSearch → Type 0
RestsAnywhere s = (rows : List (List (List Literal))) (log : List Entry) → IsResting s.search rows log

-- There is a search for each worker: each is that of one that had memory, or a new one.
pub record AreKept (searches : List KeptSearch) (model : Option ℕ) (wanting : Bool) (xs : List Left) : Type 0 where
  pub own : Each (λ i s. RestsAnywhere s ⊎ ((k : ℕ) × (x : Left) × (slice_get xs k ≡ Some x) × (x.reached ≢ reached.NoMemory) × (x.kept ≡ s))) searches
  pub count : length searches ≡ length xs
  pub found : IsModelAmong model searches xs
  pub memory : wanting ≡ false → Each (λ k x. x.reached ≢ reached.NoMemory) xs

-- no cube was told as spent; or this diary is that of one of them, and no other is of a lower one
abbrev pub IsLowest : Option Diary → List Left → Type 0
IsLowest None xs = Each (λ k x. x.spent ≡ None) xs
IsLowest (Some d) xs = ((k : ℕ) × (x : Left) × (slice_get xs k ≡ Some x) × (x.spent ≡ Some d)) × Each (λ k x. (e : Diary) → x.spent ≡ Some e → d.cube ≤ e.cube) xs

-- ---- the searches that are kept

abbrev pub AreAtRest : LogValue → List KeptSearch → Type 0
AreAtRest log = Each (λ i k. RestsBeside log k.search)

abbrev pub values_of : Option KeptSearch → ℕ → Bool
values_of None = λ x. false
values_of (Some k) = valuation_of k.search

-- the values that one of the searches has
abbrev pub values_in : List KeptSearch → ℕ → ℕ → Bool
values_in searches i = values_of (slice_get searches i)
