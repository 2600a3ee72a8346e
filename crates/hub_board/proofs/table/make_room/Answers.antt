use Rattle.std.proofs.Common.{rules}
use Rattle.hub_board.proofs.Filing.{room_kept, room_only}
use Rattle.hub_board.proofs.table.make_room.Goals as goal

pub rows-preserved : goal.rows-preserved
rows-preserved c = (
  λ i e q. room_kept c.rows.rows.items c.push.new.self.items c.in_ok-push.ensures.items i e (c.rows.invariant.0 i e q),
  λ i e q. c.rows.invariant.1 i e (room_only c.rows.rows.items c.push.new.self.items c.in_ok-push.ensures.items i e q),
  search rules,
)
