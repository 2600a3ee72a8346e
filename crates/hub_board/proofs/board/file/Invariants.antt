use Rattle.std.specs.Prelude.{◌≡◌, ◌+◌, ℕ, List, drop}
use Rattle.hub_core.specs.declared.events.Event.{Event}
use Rattle.hub_board.specs.Filing.{IsThere, IsFiled}
use Rattle.hub_board.proofs.board.file.Given as goal

abbrev pub invariant-events : goal.invariant-events
invariant-events l = ((seen : List Event) → l.events ≡ drop l.fn.table.filed seen → IsFiled l.fn.table seen → IsFiled l.table seen)
    × ((i : ℕ) → IsThere l.fn.table.rows.items i → IsThere l.table.rows.items i)
    × (l.table.filed ≡ l.fn.table.filed + l.at)
