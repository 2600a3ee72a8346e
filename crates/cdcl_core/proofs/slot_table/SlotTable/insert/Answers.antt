use Rattle.std.proofs.Common.{ap, ◌∙◌}
use Rattle.cdcl_core.specs.Slots.{slot_in}
use Rattle.cdcl_core.proofs.Blocks.{set_renamed}
use Rattle.cdcl_core.proofs.slot_table.SlotTable.insert.Goals as goal

pub returns-clause-named : goal.returns-clause-named
returns-clause-named c =
    set_renamed c.make_place.new.blocks.items c.make_place.new.row.items c.args.self.now c.args.id c.in_ok-place.place c.args.slot (λ q. c.make_place.ensures.same q ∙ ap (λ v. slot_in v q) c.self.view_is) c.make_place.ensures.blocks c.in_ok-place.ensures.place c.requires
