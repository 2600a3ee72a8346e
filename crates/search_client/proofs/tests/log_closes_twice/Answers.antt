use Rattle.search_client.proofs.Boards.{board_listed, board_knows, board_from, board_below}
use Rattle.search_client.proofs.tests.log_closes_twice.Goals as goal

pub two_close_on-are_closed-requires-clause-listed : goal.two_close_on-are_closed-requires-clause-listed
two_close_on-are_closed-requires-clause-listed c = board_listed _ _ c.new-board.ensures.terms c.len-terms.ensures.terms.list

pub two_close_on-are_closed-requires-clause-known : goal.two_close_on-are_closed-requires-clause-known
two_close_on-are_closed-requires-clause-known c = λ p lt. board_knows _ _ c.len-from.result p c.new-board.ensures.log c.len-from.ensures lt

pub two_close_on-are_closed-requires-clause-from : goal.two_close_on-are_closed-requires-clause-from
two_close_on-are_closed-requires-clause-from c = board_from _ _ _ c.new-board.ensures.log c.len-from.ensures

pub two_close_on-are_closed-requires-clause-below : goal.two_close_on-are_closed-requires-clause-below
two_close_on-are_closed-requires-clause-below c = board_below _ _ _ _ c.args.given.now c.new-board.ensures.terms c.new-board.ensures.log c.requires.stands c.requires.given
