use Rattle.std.proofs.Common.{◌≡◌, ◌<◌, None}
use Rattle.std.specs.Prelude.{◌≢◌}
use Rattle.cnf_base.specs.declared.clause.ClauseId.{ClauseId}
use Rattle.cdcl_core.specs.Search.{level_of, held_of}
use Rattle.cdcl_loop.specs.Engines.{IsEngine}
use Rattle.cube_search.specs.Holding.{IsParking}
use Rattle.cube_search.proofs.parking.park_position.Given as goal

abbrev pub invariant-parts : goal.invariant-parts
invariant-parts l = record {
  same : l.engine ≡ record l.fn.engine { watches = l.engine.watches };
  engine : IsEngine l.engine;
  level : level_of l.engine.trail ≡ 0;
  parking : IsParking l.fn.engine.watches l.engine.watches;
  others : (q : ClauseId) → q.pos ≢ l.pos → held_of l.engine.watches q ≡ held_of l.fn.engine.watches q;
  parked : (q : ClauseId) → q.pos ≡ l.pos → q.part < l.part → held_of l.engine.watches q ≡ None;
}
