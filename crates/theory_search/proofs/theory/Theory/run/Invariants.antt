use Rattle.std.proofs.Common.{◌≡◌}
use Rattle.proof_log.specs.LemmaBoards.{IsLaterByMore}
use Rattle.cube_search.specs.Running.{given_in, IsWriting}
use Rattle.theory_search.specs.Theories.{IsTheoryApart, GoesOn}
use Rattle.theory_search.proofs.theory.Theory.run.Given as goal

abbrev pub invariant-rounds : goal.invariant-rounds
invariant-rounds g l = record {
  live : l.self.live ≡ l.fn.self.live;
  later : IsLaterByMore (g.B.Board.nodes l.fn.board) (g.B.Board.nodes l.board) (g.B.Board.log l.fn.board) (g.B.Board.log l.board) (g.B.Board.knows l.fn.board) (g.B.Board.knows l.board);
  given : given_in l.search ≡ l.given;
  kept : GoesOn (g.B.Board.nodes l.fn.board) (g.B.Board.nodes l.board) (g.B.Board.log l.fn.board) (g.B.Board.log l.board) l.fn.self l.self l.fn.search l.search;
  writing : IsTheoryApart (g.B.Board.nodes l.fn.board) (g.B.Board.log l.fn.board) l.fn.self l.fn.search → IsWriting l.search (g.B.Board.nodes l.board) (g.B.Board.log l.board);
}
