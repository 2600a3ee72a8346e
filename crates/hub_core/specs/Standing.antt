-- The hub's state stands for a history.
use Rattle.std.specs.Prelude.{◌≡◌, ◌==◌, ◌&&◌, ℕ, suc, Bool, false, List, length, Option, Some, None, slice_get}
use Rattle.proof_log.specs.declared.entry.Entry.{Entry}
use Rattle.proof_log.specs.Pairs.{with_pair, found}
use Rattle.proof_log.specs.Places.{place_of_pair}
use Rattle.proof_log.specs.Stored.{pair_place}
use Rattle.hub_core.specs.declared.events.Event.{Event}
use Rattle.hub_core.specs.declared.state.HubState.{HubState}
use Rattle.hub_core.specs.declared.state.CubeStage.{CubeStage}
use Rattle.hub_core.specs.Hubs.{HubValue, HubView, view_of, IsHistory}

-- the pass has the cube open
abbrev pub is_open : Option CubeStage → ℕ → Bool
is_open None n = false
is_open (Some g) n = g.active && (n == g.holder)

abbrev pub closed_at : Option CubeStage → Option ℕ
closed_at None = None
closed_at (Some g) = g.closed

abbrev pub is_spent : Option CubeStage → Bool
is_spent None = false
is_spent (Some g) = g.spent

abbrev pub or_else : Option ℕ → Option ℕ → Option ℕ
or_else None o = o
or_else (Some x) o = Some x

-- the state is that of this view
pub record Matches (s : HubState) (v : HubView) : Type 0 where
  pub count : s.count ≡ suc (length v.log)
  pub claimed : length s.stages ≡ v.claimed
  pub found : s.found ≡ v.found
  pub open_for : (n c : ℕ) → is_open (slice_get s.stages c) n ≡ v.open_for n c
  pub closed : (c : ℕ) → closed_at (slice_get s.stages c) ≡ v.closed c
  pub spent : (c : ℕ) → is_spent (slice_get s.stages c) ≡ v.spent c

-- The position of each pair is kept: by the opening log, else among the pairs of the events.
abbrev pub ArePlaced : HubValue → List (ℕ × (ℕ × ℕ)) → List Entry → Type 0
ArePlaced law pairs log = (t u : ℕ) → or_else (pair_place law.log.equals t u) (found pairs t u) ≡ place_of_pair log t u

-- the history was permitted, and the state is what it makes
pub record IsHub (law : HubValue) (s : HubState) (history : List Event) : Type 0 where
  pub made : IsHistory law history
  pub matches : Matches s (view_of law history)
  pub pairs : ArePlaced law s.pairs (view_of law history).log

-- ---- what a pair's call does

-- the next position was drawn for a pair
pub record IsDrawn (old new : HubState) (t u at : ℕ) : Type 0 where
  pub place : at ≡ old.count
  pub count : new.count ≡ suc old.count
  pub pairs : (x y : ℕ) → found new.pairs x y ≡ with_pair (found old.pairs) t u old.count x y
  pub stages : new.stages ≡ old.stages
  pub found_too : new.found ≡ old.found

-- the pair has this position already, else the next one was drawn
abbrev pub IsDefined : Option ℕ → HubState → HubState → ℕ → ℕ → ℕ → Type 0
IsDefined None old new t u at = IsDrawn old new t u at
IsDefined (Some p) old new t u at = (at ≡ p) × (new ≡ old)
