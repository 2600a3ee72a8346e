use Rattle.std.proofs.Common.{◌≡◌, ◌<◌, List, Some}
use Rattle.cnf_base.specs.Literals.{Literal}
use Rattle.cnf_base.specs.declared.clause.ClauseId.{ClauseId}
use Rattle.proof_log.specs.Logs.{clause_at, state_of}
use Rattle.cdcl_core.specs.Search.{level_of, clause_of}
use Rattle.cdcl_loop.specs.Engines.{IsEngine}
use Rattle.cube_search.specs.Holding.{IsBringing}
use Rattle.cube_search.proofs.bring.hold_position.Given as goal

abbrev pub invariant-parts : goal.invariant-parts
invariant-parts g l = record {
  engine : IsEngine l.engine;
  level : level_of l.engine.trail ≡ 0;
  given : l.engine.given ≡ l.fn.engine.given;
  bringing : ((id : ClauseId) (c : List Literal) → clause_of l.fn.engine.watches id ≡ Some c → clause_at (state_of (g.B.Board.nodes l.board) (g.B.Board.log l.board)).clauses id ≡ Some c) →
      IsBringing (λ part. part < l.part) l.fn.engine.watches l.engine.watches (state_of (g.B.Board.nodes l.board) (g.B.Board.log l.board)).clauses l.fn.engine.agenda.list l.engine.agenda.list l.pos;
}
