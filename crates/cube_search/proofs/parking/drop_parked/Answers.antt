use Rattle.cube_search.proofs.Leaving.{thinned_none}
use Rattle.cube_search.proofs.parking.drop_parked.Goals as goal

pub returns-then-at-bound-clause-thinned : goal.returns-then-at-bound-clause-thinned
returns-then-at-bound-clause-thinned g c = thinned_none (g.B.Board.log c.args.board.now) c.args.engine.now.watches
