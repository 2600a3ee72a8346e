use Rattle.std.proofs.Common.{ℕ, ◌≡◌, ◌+◌, None, take}
use Rattle.std.specs.Prelude.{Contains}
use Rattle.cnf_base.specs.declared.clause.ClauseId.{ClauseId}
use Rattle.cdcl_core.specs.Search.{level_of, clause_of, held_of}
use Rattle.cdcl_loop.specs.Engines.{IsEngine}
use Rattle.cube_search.specs.Holding.{IsParking, IsGapless}
use Rattle.cube_search.proofs.parking.park_others.Given as goal

abbrev pub invariant-positions : goal.invariant-positions
invariant-positions l = record {
  same : l.engine ≡ record l.fn.engine { watches = l.engine.watches };
  engine : IsEngine l.engine;
  level : level_of l.engine.trail ≡ 0;
  parking : IsParking l.fn.engine.watches l.engine.watches;
  needed : (q : ClauseId) → Contains l.needed (q.pos + 1) → held_of l.engine.watches q ≡ held_of l.fn.engine.watches q;
  parked : ((p : ℕ) → Contains l.positions p → IsGapless (clause_of l.fn.engine.watches) p) → (q : ClauseId) → Contains (take l.pos-index l.positions) q.pos → (Contains l.needed (q.pos + 1) → ⊥) → held_of l.engine.watches q ≡ None;
}
