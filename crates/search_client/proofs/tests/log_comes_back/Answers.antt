use Rattle.search_client.proofs.Boards.{board_below}
use Rattle.search_client.proofs.tests.log_comes_back.Goals as goal

pub comes_back_on-is_so-requires-clause-below : goal.comes_back_on-is_so-requires-clause-below
comes_back_on-is_so-requires-clause-below c = board_below _ _ _ _ c.args.given.now c.new-board.ensures.terms c.new-board.ensures.log c.requires.stands c.requires.given
