use Rattle.std.proofs.Common.{◌≤◌, ◌∙◌}
use Rattle.cdcl_core.specs.Blocks.{block_at, HasPlace}
use Rattle.cdcl_core.proofs.Blocks.{read_slot, read_none}
use Rattle.cdcl_core.proofs.slot_table.SlotTable.get.Goals as goal

pub returns-in_default : goal.returns-in_default
returns-in_default c =
    let few : (block_at c.self.inside.blocks.items c.args.id.pos).room ≤ c.args.id.part = rw (← c.as_slice.ensures.value) c.in_default.ensures in
    read_none c.self.inside.blocks.items c.self.inside.row.items c.args.self.now c.args.id c.self.view_is few

pub returns : goal.returns
returns c =
    let at : HasPlace c.self.inside.blocks.items c.args.id c.in-Some.place = rw (← c.as_slice.ensures.value) c.in-Some.ensures in
    c.some.ensures ∙ read_slot c.self.inside.blocks.items c.self.inside.row.items c.args.self.now c.args.id c.in-Some.place c.index.result.now c.self.view_is c.self.invariant at c.index.ensures
