-- The rule of the ticket lock and of its history. Word 0 is the turn and word 1 the next ticket, both counted modulo 2^64, and the one slot has the state and the entries.
use Rattle.std.specs.Prelude.{◌≡◌, ℕ, ◌+◌, ◌%◌, ◌<◌, ◌≤◌, ◌⊎◌, nat_eq, true, List, [], ◌∷◌, length, Option, Some}
use Rattle.std.specs.List.{AllByRecursion, IsDistinct}
use mathlib.Core.Option.{some, none}
use mathlib.Core.Option as maybe
use lib.ListN.{get_elem?}
use Rattle.atomic_table.specs.Table.{State}
use Rattle.shared_history.specs.Events.{of_pass, StartsWith, numbers}
use Rattle.shared_history.specs.declared.view.Stage.{Stage}
use Rattle.shared_history.specs.declared.view.Stage.TheVariants.{Idle, Waiting, Turn}
use Rattle.shared_history.specs.declared.view.View.{View}
use Rattle.shared_history.specs.declared.view.Locked.{Locked}

-- how many numbers a word has
abbrev pub round : ℕ
round = 18446744073709551616

module _ {E : Type 0} where
  abbrev pub ticket_of : Stage E → maybe.Option ℕ
  ticket_of Idle = none
  ticket_of (Waiting t) = some t
  ticket_of (Turn t all) = some t

  -- the whole history, where its turn came
  abbrev pub turn_of : Stage E → maybe.Option (List E)
  turn_of Idle = none
  turn_of (Waiting t) = none
  turn_of (Turn t all) = some all

  abbrev pub drawn : Stage E → ℕ
  drawn Idle = 0
  drawn (Waiting t) = 1
  drawn (Turn t all) = 1

-- all events of this number are these, and they stand in what was seen
abbrev pub Owns : {E : Type 0} → (E → ℕ) → List E → List E → ℕ × List E → Type 0
Owns by log seen p = (of_pass by p.0 log ≡ p.1) × (of_pass by p.0 seen ≡ p.1)

module _ {K E : Type 0} where
  -- how many tickets are out
  abbrev pub tickets : List (View K E) → ℕ
  tickets [] = 0
  tickets (v ∷ vs) = drawn v.stage + tickets vs

  abbrev pub first_view : K → View K E
  first_view key = record { law = Some key; live = true; number = 0; made = 1; seen = []; mine = []; ended = []; other = []; stage = Idle }

  -- what a view keeps is of this history
  pub record Knows (by : E → ℕ) (log : List E) (v : View K E) : Type 0 where
    pub seen : StartsWith log v.seen
    pub other : StartsWith log v.other
    pub mine : Owns by log v.seen (v.number, v.mine)
    pub ended : AllByRecursion (Owns by log v.seen) v.ended

  -- the j-th of so many views. Each number belongs to one of the views, its owner, so no two live views keep one number; a live view's own number is its place
  pub record Fits (by : E → ℕ) (key : K) (log : List E) (turn next : ℕ) (owner : ℕ → ℕ) (count j : ℕ) (v : View K E) : Type 0 where
    pub law : v.live ≡ true → v.law ≡ Some key
    pub ticket : (t : ℕ) → ticket_of v.stage ≡ some t → (turn ≤ t) × (t < next)
    pub at_turn : (all : List E) → turn_of v.stage ≡ some all → (all ≡ log) × (ticket_of v.stage ≡ some turn)
    pub knows : v.live ≡ true → Knows by log v
    pub place : v.live ≡ true → v.number ≡ j
    pub owned : v.live ≡ true → AllByRecursion (λ n. owner n ≡ j) (numbers v.number v.ended)
    pub differ : v.live ≡ true → IsDistinct nat_eq (numbers v.number v.ended)
    pub made : v.live ≡ true → v.number ≡ 0 → v.made ≡ count

  module _ {T : Type 0} where
    -- the slot has the whole history and a state that stands for it, and no pass is at its turn
    abbrev pub AtHome : (K → T → List E → Type 0) → K → List E → List (maybe.Option (Option (Locked T E))) → List (View K E) → Type 0
    AtHome stands key log homes views = (x : Locked T E) × (homes ≡ some (Some x) ∷ []) × (x.entries.items ≡ log) × stands key x.state log × ((j : ℕ) (v : View K E) → get_elem? views j ≡ some v → turn_of v.stage ≡ none)

    -- a pass whose turn came has what was in the slot
    abbrev pub IsOut : List (maybe.Option (Option (Locked T E))) → List (View K E) → Type 0
    IsOut homes views = (homes ≡ none ∷ []) × ((j : ℕ) × (v : View K E) × (all : List E) × (get_elem? views j ≡ some v) × (turn_of v.stage ≡ some all))

    pub record Kept (by : E → ℕ) (stands : K → T → List E → Type 0) (key : K) (s : State (Option (Locked T E)) (View K E)) : Type 0 where
      pub log : List E
      pub turn : ℕ
      pub next : ℕ
      pub owner : ℕ → ℕ
      pub words : s.words ≡ turn % round ∷ next % round ∷ []
      pub counted : turn + tickets s.views ≡ next
      pub few : length s.views ≤ 4294967296
      pub below : AllByRecursion (λ e. by e < length s.views) log
      pub fresh : (n : ℕ) → length s.views ≤ n → owner n ≡ n
      pub each_view : (j : ℕ) (v : View K E) → get_elem? s.views j ≡ some v → Fits by key log turn next owner (length s.views) j v
      pub apart : (i j : ℕ) (v w : View K E) (t : ℕ) → get_elem? s.views i ≡ some v → get_elem? s.views j ≡ some w → ticket_of v.stage ≡ some t → ticket_of w.stage ≡ some t → i ≡ j
      pub slot : AtHome stands key log s.homes s.views ⊎ IsOut s.homes s.views
