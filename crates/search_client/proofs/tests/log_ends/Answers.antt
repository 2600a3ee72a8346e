use Rattle.search_client.proofs.Boards.{board_listed, board_knows, board_from, board_below, board_waits}
use Rattle.search_client.proofs.tests.log_ends.Goals as goal

pub ends_on-is_so-requires-clause-listed : goal.ends_on-is_so-requires-clause-listed
ends_on-is_so-requires-clause-listed c = board_listed _ _ c.new-board.ensures.terms c.len-terms.ensures.terms.list

pub ends_on-is_so-requires-clause-known : goal.ends_on-is_so-requires-clause-known
ends_on-is_so-requires-clause-known c = λ p lt. board_knows _ _ c.len-from.result p c.new-board.ensures.log c.len-from.ensures lt

pub ends_on-is_so-requires-clause-from : goal.ends_on-is_so-requires-clause-from
ends_on-is_so-requires-clause-from c = board_from _ _ _ c.new-board.ensures.log c.len-from.ensures

pub ends_on-is_so-requires-clause-below : goal.ends_on-is_so-requires-clause-below
ends_on-is_so-requires-clause-below c = board_below _ _ _ _ c.args.given.now c.new-board.ensures.terms c.new-board.ensures.log c.requires.stands c.requires.given

pub invariant_of-board : goal.invariant_of-board
invariant_of-board c = board_waits _ _ _ _ c.args.chain c.new-board.ensures.terms c.new-board.ensures.log c.requires.chain
