use Rattle.cube_search.specs.Running.{IsRunning, IsWriting, IsSameRun}
use Rattle.cube_search.proofs.search.Search.clean.Given as goal

abbrev pub invariant-worst : goal.invariant-worst
invariant-worst g l = record {
  run : IsSameRun l.fn.self l.self;
  running : IsRunning l.self (g.B.Board.nodes l.board) (g.B.Board.log l.board);
  writing : IsWriting l.fn.self (g.B.Board.nodes l.board) (g.B.Board.log l.board) → IsWriting l.self (g.B.Board.nodes l.board) (g.B.Board.log l.board);
}
