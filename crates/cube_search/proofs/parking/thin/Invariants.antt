use Rattle.std.proofs.Common.{◌≡◌}
use Rattle.cdcl_core.specs.Search.{level_of}
use Rattle.cdcl_loop.specs.Engines.{IsEngine}
use Rattle.cube_search.specs.Holding.{IsThinned}
use Rattle.cube_search.proofs.parking.thin.Given as goal

abbrev pub invariant-worst : goal.invariant-worst
invariant-worst g l = record {
  engine : IsEngine l.engine;
  level : level_of l.engine.trail ≡ 0;
  listed : l.engine.agenda.list ≡ l.fn.engine.agenda.list;
  thinned : IsThinned (g.B.Board.log l.board) l.fn.engine.watches l.engine.watches;
}
