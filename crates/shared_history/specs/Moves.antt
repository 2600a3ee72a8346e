-- What each step tells.
use Rattle.std.specs.Prelude.{◌≡◌, ◌≢◌, nat_eq, ℕ, ◌+◌, ◌%◌, ◌<◌, true, false, List, [], ◌∷◌, ◌++◌, length, drop, Option, Some, None}
use Rattle.std.specs.List.{AllByRecursion, IsDistinct}
use Rattle.atomic_table.specs.Table.{Me, Step}
use Rattle.shared_history.specs.Events.{of_pass, numbers}
use Rattle.shared_history.specs.declared.view.Stage.{Stage}
use Rattle.shared_history.specs.declared.view.Stage.TheVariants.{Idle, Waiting, Turn}
use Rattle.shared_history.specs.declared.view.View.{View}
use Rattle.shared_history.specs.declared.view.Locked.{Locked}
use Rattle.shared_history.specs.Rule.{round, Knows}

abbrev pub Sat : Type 0 → Type 0 → Type 0 → Type 0
Sat T K E = Me (Option (Locked T E)) (View K E)

-- the longer of the two, one of which begins the other
abbrev pub longer : {E : Type 0} → List E → List E → List E
longer xs ys = xs ++ drop (length xs) ys

module _ {K E : Type 0} where
  abbrev pub at_stage : View K E → Stage E → View K E
  at_stage v stage = record { law = v.law; live = v.live; number = v.number; made = v.made; seen = v.seen; mine = v.mine; ended = v.ended; other = v.other; stage = stage }

  abbrev pub resting : View K E → List E → List E → View K E
  resting v seen mine = record { law = v.law; live = v.live; number = v.number; made = v.made; seen = seen; mine = mine; ended = v.ended; other = v.other; stage = Idle }

  -- the pass has seen this history, and passed the turn on
  abbrev pub rested : (E → ℕ) → View K E → List E → View K E
  rested by v log = resting v log (of_pass by v.number log)

  -- the giver, and the pass that it gives
  abbrev pub giver : View K E → View K E
  giver v = record { law = v.law; live = v.live; number = v.number; made = v.made + 1; seen = v.seen; mine = v.mine; ended = v.ended; other = v.other; stage = v.stage }

  abbrev pub given : View K E → View K E
  given v = record { law = v.law; live = true; number = v.made; made = 0; seen = v.seen; mine = []; ended = []; other = []; stage = Idle }

  -- a pass that took in another
  abbrev pub both : View K E → View K E → View K E
  both v w = record { law = v.law; live = v.live; number = v.number; made = v.made; seen = longer v.seen w.seen; mine = v.mine; ended = v.ended ++ (w.number, w.mine) ∷ w.ended; other = w.seen; stage = v.stage }

  abbrev pub nobody : View K E
  nobody = record { law = None; live = false; number = 0; made = 0; seen = []; mine = []; ended = []; other = []; stage = Idle }

module _ {T K E : Type 0} where
  -- the pass drew a ticket
  abbrev pub drew : Step (Option (Locked T E)) → Sat T K E → ℕ → Sat T K E → Type 0
  drew st m r m' = (t : ℕ) × (r ≡ t % round) × (m' ≡ (at_stage m.0 (Waiting t), m.1))

  module _ (by : E → ℕ) where
    -- its turn came, and it took the state
    abbrev pub Came : (K → T → List E → Type 0) → Sat T K E → ℕ → Sat T K E → Type 0
    Came stands m t m' = (x : Locked T E) × (m'.0 ≡ at_stage m.0 (Turn t x.entries.items)) × (m'.1 ≡ (0, Some x) ∷ []) × ((key : K) → m.0.law ≡ Some key → stands key x.state x.entries.items) × Knows by x.entries.items m.0 × (m.0.number ≡ 0 → AllByRecursion (λ e. by e < m.0.made) x.entries.items)

    abbrev pub polled : (K → T → List E → Type 0) → Step (Option (Locked T E)) → Sat T K E → ℕ → Sat T K E → Type 0
    polled stands st m r m' = (t : ℕ) → m.0.stage ≡ Waiting t → (r ≡ t % round → Came stands m t m') × (r ≢ t % round → m' ≡ m)

    abbrev pub passed_on : Step (Option (Locked T E)) → Sat T K E → ℕ → Sat T K E → Type 0
    passed_on st m r m' = (x : Locked T E) → m.1 ≡ (0, Some x) ∷ [] → m' ≡ (rested by m.0 x.entries.items, [])

  -- the pass passed the turn on, and nothing came of it
  abbrev pub left : Step (Option (Locked T E)) → Sat T K E → ℕ → Sat T K E → Type 0
  left st m r m' = (x : Locked T E) → m.1 ≡ (0, Some x) ∷ [] → m' ≡ (at_stage m.0 Idle, [])

  -- the pass looked, and what it knows are beginnings and shares of one history
  abbrev pub looked : (E → ℕ) → Step (Option (Locked T E)) → Sat T K E → ℕ → Sat T K E → Type 0
  looked by st m r m' = (m' ≡ m) × ((log : List E) × Knows by log m.0 × IsDistinct nat_eq (numbers m.0.number m.0.ended) × (m.0.number ≡ 0 → AllByRecursion (λ e. by e < m.0.made) log))
