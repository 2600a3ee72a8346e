use Rattle.proof_log.specs.Boards.{IsLater}
use Rattle.cube_search.specs.Running.{IsRunning, IsReadyToPut, IsUpToDate, IsCaughtUp, IsSameRun}
use Rattle.cube_search.proofs.search.Search.go_to_end.Given as goal

abbrev pub invariant-steps : goal.invariant-steps
invariant-steps g l = record {
  run : IsSameRun l.fn.self l.self;
  later : IsLater (g.B.Board.nodes l.fn.board) (g.B.Board.nodes l.board) (g.B.Board.log l.fn.board) (g.B.Board.log l.board) (g.B.Board.knows l.fn.board) (g.B.Board.knows l.board);
  running : IsRunning l.self (g.B.Board.nodes l.board) (g.B.Board.log l.board);
  told : IsCaughtUp (g.B.Board.told l.board) (g.B.Board.log l.board);
  upto : IsReadyToPut l.fn.self (g.B.Board.nodes l.fn.board) (g.B.Board.log l.fn.board) → IsUpToDate l.self (g.B.Board.nodes l.board) (g.B.Board.log l.board) (g.B.Board.knows l.board);
}
