use Rattle.std.proofs.Common.{arith}
use Rattle.search_client.proofs.Boards.{board_listed, board_knows, board_from, board_below}
use Rattle.search_client.proofs.tests.log_ends_twice.Goals as goal

pub ends_twice_on-ended-requires-clause-listed : goal.ends_twice_on-ended-requires-clause-listed
ends_twice_on-ended-requires-clause-listed c = board_listed _ _ c.new-board.ensures.terms c.len-terms.ensures.terms.list

pub ends_twice_on-ended-requires-clause-known : goal.ends_twice_on-ended-requires-clause-known
ends_twice_on-ended-requires-clause-known c = λ p lt. board_knows _ _ c.len-from.result p c.new-board.ensures.log c.len-from.ensures (omega (arith, lt, c.requires.within, c.len-from.ensures))

pub ends_twice_on-ended-requires-clause-within : goal.ends_twice_on-ended-requires-clause-within
ends_twice_on-ended-requires-clause-within c = omega (arith, c.requires.within, c.len-from.ensures)

pub ends_twice_on-ended-requires-clause-from : goal.ends_twice_on-ended-requires-clause-from
ends_twice_on-ended-requires-clause-from c = board_from _ _ _ c.new-board.ensures.log c.len-from.ensures

pub ends_twice_on-ended-requires-clause-below : goal.ends_twice_on-ended-requires-clause-below
ends_twice_on-ended-requires-clause-below c = board_below _ _ _ _ c.args.given.now c.new-board.ensures.terms c.new-board.ensures.log c.requires.stands c.requires.given
