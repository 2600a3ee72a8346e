use Rattle.std.proofs.Common.{refl}
use Rattle.cube_search.proofs.Leaving.{thinned_none, thinned_dropped}
use Rattle.cube_search.proofs.parking.drop_chain.Goals as goal

pub returns-then-not-is_chain-clause-thinned : goal.returns-then-not-is_chain-clause-thinned
returns-then-not-is_chain-clause-thinned g c = thinned_none (g.B.Board.log c.args.board.now) c.args.engine.now.watches

pub returns-clause-thinned : goal.returns-clause-thinned
returns-clause-thinned g c = thinned_dropped (g.B.Board.log c.args.board.now) c.args.at (c.if-not-is_chain.ensures.shown refl) c.drop_idle-dropped.result c.args.engine.now c.drop_idle-dropped.new.self c.drop_idle-dropped.ensures.dropped c.drop_idle-dropped.ensures.others
