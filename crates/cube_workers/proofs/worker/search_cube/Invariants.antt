use Rattle.hub_board.specs.Boards.{footing_of}
use Rattle.cube_workers.proofs.worker.search_cube.Given as goal

abbrev pub ghosts-search_lent : goal.ghosts-search_lent
ghosts-search_lent g a = record { from = footing_of a.board }
