use Rattle.search_client.proofs.Boards.{board_below}
use Rattle.search_client.proofs.lemmas.log_ends.Goals as goal

pub ends_on-is_so-requires-clause-below : goal.ends_on-is_so-requires-clause-below
ends_on-is_so-requires-clause-below c = board_below _ _ _ _ c.args.given.now c.new-board.ensures.terms c.new-board.ensures.log c.requires.stands c.requires.given
