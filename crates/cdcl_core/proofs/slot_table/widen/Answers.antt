use Rattle.std.proofs.Common.{rules, ◌≡◌, ◌<◌, length, vec_len, ◌∙◌, arith}
use Rattle.std.proofs.lemmas.List.{get_or_default}
use Rattle.cdcl_core.specs.Blocks.{no_block, block_at}
use Rattle.cdcl_core.proofs.Blocks.{widened}
use Rattle.cdcl_core.proofs.slot_table.widen.Goals as goal

pub returns-clause-widened : goal.returns-clause-widened
returns-clause-widened c =
    let b = c.index-block.result.now in
    let at : b ≡ block_at c.args.blocks.now.items c.args.pos = c.index-block.ensures ∙ get_or_default c.args.blocks.now.items c.args.pos b no_block c.requires.pos in
    let more : b.room < c.next_room-room.result = rw at (omega (arith, c.requires.count, c.next_room-room.ensures.enough)) in
    let size : vec_len c.copy_last.new.row ≡ length c.copy_last.new.row.items = search rules in
    widened c.args.blocks.now.items c.args.row.now.items c.args.pos c.args.count b c.copy_last.new.row.items c.resize.new.self.items c.in_ok-first.first c.next_room-room.result (vec_len c.copy_last.new.row) at c.in_ok-first.ensures.last more c.next_room-room.ensures.enough c.in_ok-resize.ensures.items size
