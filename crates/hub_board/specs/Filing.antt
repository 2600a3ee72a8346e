-- What a board over the hub files of the events that it has seen.
use Rattle.std.specs.Prelude.{◌≡◌, ◌≤◌, ◌<◌, ◌||◌, ℕ, Bool, true, false, List, [], ◌∷◌, length, take, Option, Some, slice_get}
use Rattle.proof_log.specs.declared.entry.Entry.{Entry}
use Rattle.hub_core.specs.declared.events.Call.{Call}
use Rattle.hub_core.specs.declared.events.Call.TheVariants.{Define, PutLemma, PutChain, Claim, Close, Spend, Found}
use Rattle.hub_core.specs.declared.events.Event.{Event}
use Rattle.hub_board.specs.declared.table.Table.{Table}
use Rattle.hub_board.specs.Chains.{chains_of}

abbrev pub tells_found : Call → Bool
tells_found (Define t u) = false
tells_found (PutLemma lemma) = false
tells_found (PutChain c hints) = false
tells_found Claim = false
tells_found (Close c p) = false
tells_found (Spend c) = false
tells_found (Found c) = true

-- a model was found
abbrev pub any_found : List Event → Bool
any_found [] = false
any_found (e ∷ es) = tells_found e.call || any_found es

-- the row at this place is filled
abbrev pub IsThere : List (Option Entry) → ℕ → Type 0
IsThere rows i = (e : Entry) × (slice_get rows i ≡ Some (Some e))

-- each row that is filled has the step of its place
abbrev pub AreRight : List (Option Entry) → List Entry → Type 0
AreRight rows steps = (i : ℕ) (e : Entry) → slice_get rows i ≡ Some (Some e) → slice_get steps i ≡ Some e

-- Of the events that were seen so many are filed: it is known how many steps they added, each of which can be read, and whether
-- a model was found. Each row that is filled, also of later events, has the step of its place.
pub record IsFiled (t : Table) (seen : List Event) : Type 0 where
  pub within : t.filed ≤ length seen
  pub next : t.next ≡ length (chains_of (take t.filed seen))
  pub found : t.found ≡ any_found (take t.filed seen)
  pub right : AreRight t.rows.items (chains_of seen)
  pub full : (i : ℕ) → i < t.next → IsThere t.rows.items i
