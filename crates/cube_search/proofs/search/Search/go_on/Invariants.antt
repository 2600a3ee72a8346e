use Rattle.std.proofs.Common.{◌≡◌, List, Some, take}
use Rattle.std.specs.Prelude.{◌⊎◌, Contains}
use Rattle.cnf_base.specs.Literals.{Literal}
use Rattle.cnf_base.specs.declared.clause.ClauseId.{ClauseId}
use Rattle.proof_log.specs.Logs.{state_of}
use Rattle.cdcl_core.specs.Search.{level_of, clause_of}
use Rattle.cdcl_loop.specs.Engines.{IsEngine}
use Rattle.cube_search.specs.Holding.{IsFilling}
use Rattle.cube_search.specs.Running.{variables_in}
use Rattle.cube_search.proofs.search.Search.go_on.Given as goal

abbrev pub invariant-places : goal.invariant-places
invariant-places g l = record {
  engine : IsEngine l.self.engine;
  level : level_of l.self.engine.trail ≡ 0;
  taken : l.self.taken ≡ l.fn.self.taken;
  opening : l.self.opening.items ≡ take l.place l.positions;
  came : (id : ClauseId) (c : List Literal) → clause_of l.self.engine.watches id ≡ Some c → (clause_of l.fn.self.engine.watches id ≡ Some c) ⊎ Contains l.positions id.pos;
  filling : IsFilling l.self.engine.watches (state_of (g.B.Board.nodes l.board) (g.B.Board.log l.board)).clauses (variables_in l.self) l.self.opening.items l.self.ends.items l.positions l.fn.self.taken.items;
}
