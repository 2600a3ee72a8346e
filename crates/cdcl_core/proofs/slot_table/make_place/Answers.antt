use Rattle.std.proofs.Common.{◌+◌, ◌∙◌}
use Rattle.cdcl_core.specs.Blocks.{AreBlocks}
use Rattle.cdcl_core.proofs.Blocks.{same_blocks, same_slots, longer_blocks, longer_slots, widened_slots}
use Rattle.cdcl_core.proofs.slot_table.make_place.Goals as goal

pub returns-in_err-lengthen-clause-same : goal.returns-in_err-lengthen-clause-same
returns-in_err-lengthen-clause-same c = λ q. same_slots c.args.blocks.now.items c.lengthen.new.blocks.items c.args.row.now.items q c.lengthen.ensures.same

pub returns-in_err-widen-clause-blocks : goal.returns-in_err-widen-clause-blocks
returns-in_err-widen-clause-blocks c =
    let a : AreBlocks c.lengthen.new.blocks.items c.args.row.now.items = same_blocks c.args.blocks.now.items c.lengthen.new.blocks.items c.args.row.now.items c.requires c.lengthen.ensures.same in
    rw c.in_err-widen.ensures.same (longer_blocks c.lengthen.new.blocks.items c.args.row.now.items c.in_err-widen.ensures.longer.0 c.widen.new.row.items a c.in_err-widen.ensures.longer.1)

pub returns-in_err-widen-clause-same : goal.returns-in_err-widen-clause-same
returns-in_err-widen-clause-same c =
    let a : AreBlocks c.lengthen.new.blocks.items c.args.row.now.items = same_blocks c.args.blocks.now.items c.lengthen.new.blocks.items c.args.row.now.items c.requires c.lengthen.ensures.same in
    λ q. rw c.in_err-widen.ensures.same (longer_slots c.lengthen.new.blocks.items c.args.row.now.items c.in_err-widen.ensures.longer.0 c.widen.new.row.items q a c.in_err-widen.ensures.longer.1 ∙ same_slots c.args.blocks.now.items c.lengthen.new.blocks.items c.args.row.now.items q c.lengthen.ensures.same)

pub returns-clause-same : goal.returns-clause-same
returns-clause-same c =
    let a : AreBlocks c.lengthen.new.blocks.items c.args.row.now.items = same_blocks c.args.blocks.now.items c.lengthen.new.blocks.items c.args.row.now.items c.requires c.lengthen.ensures.same in
    λ q. widened_slots c.lengthen.new.blocks.items c.widen.new.blocks.items c.args.row.now.items c.widen.new.row.items c.args.id.pos (c.args.id.part + 1) c.in_ok-widen.ensures.widened c.in_ok-lengthen.ensures.enough a q ∙ same_slots c.args.blocks.now.items c.lengthen.new.blocks.items c.args.row.now.items q c.lengthen.ensures.same
