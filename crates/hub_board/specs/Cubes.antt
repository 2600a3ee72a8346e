-- What a pass has open, and what it has told of its cubes.
use Rattle.std.specs.Prelude.{◌≡◌, ◌≢◌, ◌⊎◌, ◌++◌, ◌∷◌, [], ℕ, true, false}
use Rattle.shared_history.specs.Events.{StartsWith}
use Rattle.hub_core.specs.declared.events.Call.{Call}
use Rattle.hub_board.specs.Boards.{BoardValue, opens_in, told}

-- the pass has no cube open
abbrev pub IsIdle : BoardValue → Type 0
IsIdle b = (c : ℕ) → opens_in b c ≡ false

-- the pass has this cube open, and no other
abbrev pub IsBusy : BoardValue → ℕ → Type 0
IsBusy b c = (opens_in b c ≡ true) × ((d : ℕ) → d ≢ c → opens_in b d ≡ false)

-- the same pass has seen more
pub record IsOn (b b' : BoardValue) : Type 0 where
  pub hist : b'.hist ≡ b.hist
  pub number : b'.pass.number ≡ b.pass.number
  pub seen : StartsWith b'.pass.seen b.pass.seen

-- the pass told of nothing, or of this call
abbrev pub IsToldMore : BoardValue → BoardValue → Call → Type 0
IsToldMore b b' call = (told b'.pass.mine ≡ told b.pass.mine) ⊎ (told b'.pass.mine ≡ told b.pass.mine ++ call ∷ [])
