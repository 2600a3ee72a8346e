-- The slots of the clauses by their names: for each position a list, which has the slot of each part, or 0.
use Rattle.std.specs.Prelude.{ℕ, ◌≡◌, ◌≢◌, zero, suc, List, [], Option, Some, None, slice_index, slice_index_or}
use Rattle.cnf_base.specs.declared.clause.ClauseId.{ClauseId}

-- 0 stands for no slot
abbrev pub some_slot : ℕ → Option ℕ
some_slot zero = None
some_slot (suc n) = Some (suc n)

-- the slot of this name
unfoldable pub slot_in : List (List ℕ) → ClauseId → Option ℕ
slot_in slots id = some_slot (slice_index (slice_index_or slots id.pos []) id.part)

-- the name has this slot now, or none, and each other name what it had
pub record IsRenamed (old new : List (List ℕ)) (id : ClauseId) (slot : Option ℕ) : Type 0 where
  pub here : slot_in new id ≡ slot
  pub others : (q : ClauseId) → q ≢ id → slot_in new q ≡ slot_in old q
