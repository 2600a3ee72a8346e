use Rattle.std.proofs.Common.{ℕ, ◌≡◌, List, Some, take}
use Rattle.std.specs.Prelude.{◌⊎◌, Contains}
use Rattle.cnf_base.specs.Literals.{Literal}
use Rattle.cnf_base.specs.declared.clause.ClauseId.{ClauseId}
use Rattle.cdcl_core.specs.Search.{level_of, clause_of, held_of}
use Rattle.cdcl_loop.specs.Engines.{IsEngine}
use Rattle.cube_search.specs.Holding.{IsSorted, AreLeft}
use Rattle.cube_search.proofs.retarget.sort_chains.Given as goal

abbrev pub invariant-positions : goal.invariant-positions
invariant-positions l = record {
  engine : IsEngine l.engine;
  level : level_of l.engine.trail ≡ 0;
  listed : l.engine.agenda.list ≡ l.fn.engine.agenda.list;
  given : l.engine.given ≡ l.fn.engine.given;
  kept : (q : ClauseId) → clause_of l.engine.watches q ≡ clause_of l.fn.engine.watches q;
  others : (q : ClauseId) → (Contains l.positions q.pos → ⊥) → held_of l.engine.watches q ≡ held_of l.fn.engine.watches q;
  came : (q : ClauseId) (c : List Literal) → held_of l.engine.watches q ≡ Some c → (held_of l.fn.engine.watches q ≡ Some c) ⊎ Contains l.positions q.pos;
  sorted : (p : ℕ) → Contains (take l.at-index l.positions) p → IsSorted l.fn.engine.watches l.engine.watches l.fn.engine.agenda.list p;
  left : AreLeft (clause_of l.fn.engine.watches) (take l.at-index l.positions) l.left.items;
}
