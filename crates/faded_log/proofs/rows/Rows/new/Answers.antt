use Rattle.std.proofs.Common.{◌≡◌, [], ◌∷◌, List, map, sym, ap, subst}
use Rattle.faded_log.specs.Faded.{IsHeld, first_of}
use Rattle.faded_log.specs.Slots.{slot_entry, slot_row}
use Rattle.faded_log.specs.declared.rows.Slot.{Slot}
use Rattle.faded_log.proofs.Holding.{held_new}
use Rattle.faded_log.proofs.rows.Rows.new.Goals as goal

pub returns-clause-held : goal.returns-clause-held
returns-clause-held c = λ nodes.
    let base = c.in_ok-base.base in
    subst (λ (slots : List Slot). IsHeld nodes (record { base = base; entries = map (slot_entry base.entries) slots; clauses = first_of base.clauses ∷ map (slot_row base.clauses) slots })) (sym c.new-2.ensures.items)
    (held_new nodes base (c.in_ok-base.ensures.stands nodes) c.in_ok-base.ensures.entries)
