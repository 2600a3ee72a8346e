use Rattle.std.proofs.Common.{Some, map, sym, ap, ◌∙◌}
use Rattle.faded_log.specs.Faded.{FadedValue}
use Rattle.faded_log.specs.Slots.{slot_entry}
use Rattle.faded_log.proofs.Slots.{entry_found}
use Rattle.faded_log.proofs.rows.Rows.entry.Goals as goal

pub returns-in-Some : goal.returns-in-Some
returns-in-Some c =
    let steps = c.self.inside.base.entries in
    ap (λ e. Some e) (c.entry_in.ensures ∙ ap (λ (l : FadedValue). slot_entry l.base.entries c.in-Some.slot.now) (sym c.self.view_is))
    ∙ sym (entry_found (slot_entry steps) c.deref.result.now c.args.self.now.entries c.args.at c.in-Some.slot.now c.if-at-eq0.false c.in-Some.ensures.lookup.3.0 c.in-Some.ensures.lookup.1
    (ap (λ l. map (slot_entry steps) l) c.deref.ensures.value ∙ ap (λ (l : FadedValue). l.entries) c.self.view_is))
