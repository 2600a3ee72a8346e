use Rattle.std.proofs.Common.{◌≡◌}
use Rattle.cdcl_loop.specs.Engines.{IsEngine}
use Rattle.cube_search.specs.Holding.{IsThinned}
use Rattle.cube_search.proofs.parking.forget.Given as goal

abbrev pub invariant-taken : goal.invariant-taken
invariant-taken g l = record {
  same : l.engine ≡ record l.fn.engine { watches = l.engine.watches };
  engine : IsEngine l.engine;
  thinned : IsThinned (g.B.Board.log l.board) l.fn.engine.watches l.engine.watches;
}
