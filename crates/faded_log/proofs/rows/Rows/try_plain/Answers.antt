use Rattle.std.proofs.Common.{◌≡◌, [], ◌∷◌, ◌++◌, length, true, map, sym, ap, subst, ◌∙◌}
use Rattle.proof_log.specs.Stored.{Stands}
use Rattle.faded_log.specs.declared.rows.Slot.TheVariants.{Plain}
use Rattle.faded_log.specs.Faded.{FadedValue, first_of}
use Rattle.faded_log.specs.Slots.{slot_entry, slot_row, IsTriedPlain}
use Rattle.faded_log.proofs.Holding.{pushed_row}
use Rattle.faded_log.proofs.Slots.{plain_entries, plain_clauses, value_of}
use Rattle.faded_log.proofs.rows.Rows.try_plain.Goals as goal

pub returns-in-Ok-clause-ok : goal.returns-in-Ok-clause-ok
returns-in-Ok-clause-ok c =
    let told = rw c.in-Ok.is at c.try_push.ensures in
    let b = c.self.inside.base in
    let now = c.try_push.new.self in
    let slots = c.self.inside.slots.items in
    let stands = subst (λ (l : FadedValue). Stands c.args.terms.now.nodes l.base) (sym c.self.view_is) c.requires.stands in
    let row = pushed_row c.args.terms.now c.try_push.new.terms b now c.args.entry c.in-Ok.at stands told.1 told.2 in
    let items : c.push_reserved.new.self.items ≡ slots ++ Plain c.in-Ok.at ∷ [] = c.push_reserved.ensures.items ∙ ap (λ xs. xs ++ Plain c.in-Ok.at ∷ []) c.reserve.ensures.items in
    subst (λ (l : FadedValue). IsTriedPlain c.args.terms.now c.try_push.new.terms l (value_of now c.push_reserved.new.self.items) c.args.entry true) c.self.view_is (
      c.in-Ok.at,
      told.0,
      told.1,
      told.2,
      ap (map (slot_entry now.entries)) items ∙ plain_entries b now slots c.args.entry c.in-Ok.at c.self.invariant.1 told.2.entries told.2.position,
      ap (λ xs. first_of now.clauses ∷ map (slot_row now.clauses) xs) items ∙ plain_clauses b now slots row.row c.in-Ok.at c.self.invariant.1 row.clauses row.places,
    )
