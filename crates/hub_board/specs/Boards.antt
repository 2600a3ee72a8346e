-- A board over the hub.
use Rattle.std.specs.Prelude.{◌≡◌, ◌≤◌, ◌<◌, ◌-◌, ◌⊎◌, ℕ, suc, Bool, false, List, [], ◌∷◌, ◌++◌, length}
use Rattle.shared_history.specs.Events.{of_pass, StartsWith}
use Rattle.shared_history.specs.Known.{Story, Known, IsPassOf}
use Rattle.proof_log.specs.declared.board.Sync.{Sync}
use Rattle.hub_core.specs.declared.events.Call.{Call}
use Rattle.hub_core.specs.declared.events.Call.TheVariants.{Define, PutLemma, PutChain, Claim, Close, Spend, Found}
use Rattle.hub_core.specs.declared.events.Reply.{Reply}
use Rattle.hub_core.specs.declared.events.Event.{Event}
use Rattle.hub_core.specs.Hubs.{HubValue, HubView, view_of, by_of, event, reply, IsOpening, IsHistory}
use Rattle.hub_board.specs.declared.table.Table.{Table}
use Rattle.hub_board.specs.Chains.{AddChains}
use Rattle.hub_board.specs.Filing.{IsThere, IsFiled}

-- the history, the pass, what is filed, and what was told last
pub record BoardValue : Type 0 where
  pub hist : Story HubValue
  pub pass : Known HubValue Event
  pub table : Table
  pub news : Sync

-- The pass is one of the history, whose law is that of an opened hub. What it has seen was permitted, has chains alone, and has its
-- own events.
pub record IsBoard (b : BoardValue) : Type 0 where
  pub own : IsPassOf b.hist b.pass
  pub opened : IsOpening b.hist.law
  pub made : IsHistory b.hist.law b.pass.seen
  pub chains : AddChains b.pass.seen
  pub filed : IsFiled b.table b.pass.seen
  pub mine : of_pass by_of b.pass.number b.pass.seen ≡ b.pass.mine

-- what the hub had when the pass last looked
abbrev pub view_in : BoardValue → HubView
view_in b = view_of b.hist.law b.pass.seen

-- the first position behind the opening log
abbrev pub base_of : BoardValue → ℕ
base_of b = suc (length b.hist.law.log.entries)

-- what stands at this position can be read
abbrev pub Knows : BoardValue → ℕ → Type 0
Knows b p = (p < base_of b) ⊎ ((base_of b ≤ p) × IsThere b.table.rows.items (p - base_of b))

-- the pass has claimed the cube, and told nothing of it
abbrev pub opens_in : BoardValue → ℕ → Bool
opens_in b c = (view_in b).open_for b.pass.number c

abbrev pub told_by : Call → List Call
told_by (Define t u) = []
told_by (PutLemma lemma) = []
told_by (PutChain c hints) = []
told_by Claim = Claim ∷ []
told_by (Close c p) = Close c p ∷ []
told_by (Spend c) = Spend c ∷ []
told_by (Found c) = Found c ∷ []

-- the calls that put no chain
abbrev pub told : List Event → List Call
told [] = []
told (e ∷ es) = told_by e.call ++ told es

-- where a board stands: its history, the number of its pass, what that has seen and told, and the cubes that it has open
pub record Footing : Type 0 where
  pub hist : Story HubValue
  pub number : ℕ
  pub seen : List Event
  pub told : List Call
  pub opens : ℕ → Bool

abbrev pub footing_of : BoardValue → Footing
footing_of b = record { hist = b.hist; number = b.pass.number; seen = b.pass.seen; told = told b.pass.mine; opens = opens_in b }

-- The board stood there, and has since seen more, and put chains alone.
pub record IsMoved (f : Footing) (b : BoardValue) : Type 0 where
  pub hist : b.hist ≡ f.hist
  pub number : b.pass.number ≡ f.number
  pub seen : StartsWith b.pass.seen f.seen
  pub told : told b.pass.mine ≡ f.told
  pub opens : (c : ℕ) → opens_in b c ≡ f.opens c

-- The pass made one call and has seen its event, and before it perhaps events of others.
pub record IsStepped (law : HubValue) (old new : Known HubValue Event) (call : Call) (r : Reply) : Type 0 where
  pub between : List Event
  pub others : of_pass by_of old.number between ≡ []
  pub replied : r ≡ reply law (old.seen ++ between) call
  pub seen : new.seen ≡ (old.seen ++ between) ++ event old.number call ∷ []
  pub mine : new.mine ≡ old.mine ++ event old.number call ∷ []

-- a footing for which no board stands
abbrev pub nowhere : Footing
nowhere = record {
  hist = record {
    table = record { words = 0; slots = 0; views_name = 0; atom = 0; block = 0; offset = 0; slot_names = [] };
    law = record { nodes = []; log = record { next = 0; over = 0; bits = []; selectors = []; equals = []; entries = []; clauses = [] }; cubes = []; assumed = [] };
  };
  number = 0;
  seen = [];
  told = [];
  opens = λ c. false;
}
