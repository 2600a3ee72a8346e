use Rattle.std.proofs.Common.{◌≤◌, refl, sym, ◌∙◌}
use Rattle.cdcl_core.specs.Blocks.{block_at, HasPlace}
use Rattle.cdcl_core.proofs.Blocks.{read_slot, read_none, set_gone}
use Rattle.cdcl_core.proofs.slot_table.SlotTable.remove.Goals as goal

pub returns-in_default-clause-value : goal.returns-in_default-clause-value
returns-in_default-clause-value c =
    let few : (block_at c.self.inside.blocks.items c.args.id.pos).room ≤ c.args.id.part = rw (← c.as_slice.ensures.value) c.in_default.ensures in
    read_none c.self.inside.blocks.items c.self.inside.row.items c.args.self.now c.args.id c.self.view_is few

pub returns-in_default-clause-gone : goal.returns-in_default-clause-gone
returns-in_default-clause-gone c =
    let few : (block_at c.self.inside.blocks.items c.args.id.pos).room ≤ c.args.id.part = rw (← c.as_slice.ensures.value) c.in_default.ensures in
    record { here = sym (read_none c.self.inside.blocks.items c.self.inside.row.items c.args.self.now c.args.id c.self.view_is few); others = λ q ne. refl }

pub returns-clause-value : goal.returns-clause-value
returns-clause-value c =
    let at : HasPlace c.self.inside.blocks.items c.args.id c.in-Some.place = rw (← c.as_slice.ensures.value) c.in-Some.ensures in
    c.some.ensures ∙ read_slot c.self.inside.blocks.items c.self.inside.row.items c.args.self.now c.args.id c.in-Some.place c.index-slot.result.now c.self.view_is c.self.invariant at c.index-slot.ensures

pub returns-clause-gone : goal.returns-clause-gone
returns-clause-gone c =
    let at : HasPlace c.self.inside.blocks.items c.args.id c.in-Some.place = rw (← c.as_slice.ensures.value) c.in-Some.ensures in
    set_gone c.self.inside.blocks.items c.self.inside.row.items c.args.self.now c.args.id c.in-Some.place c.self.view_is c.self.invariant at
