use Rattle.std.specs.Prelude.{◌≡◌, ℕ, Some, length, slice_get}
use Rattle.proof_log.specs.declared.entry.Entry.{Entry}
use Rattle.hub_board.proofs.table.make_room.Given as goal

abbrev pub invariant-rows : goal.invariant-rows
invariant-rows l = ((i : ℕ) (e : Entry) → slice_get l.initial.rows.items i ≡ Some (Some e) → slice_get l.rows.items i ≡ Some (Some e))
    × ((i : ℕ) (e : Entry) → slice_get l.rows.items i ≡ Some (Some e) → slice_get l.initial.rows.items i ≡ Some (Some e))
    × (length l.rows.items ≡ l.counter)
