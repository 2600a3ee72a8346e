use Rattle.theory_client.proofs.Boards.{board_posed}
use Rattle.theory_client.proofs.searching.log_ends.Goals as goal

pub ends_on-requires-clause-posed : goal.ends_on-requires-clause-posed
ends_on-requires-clause-posed c = board_posed _ _ _ _ c.args.roots.now _ _ c.new-board.ensures.terms c.new-board.ensures.log c.requires.posed
