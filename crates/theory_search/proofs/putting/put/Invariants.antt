use Rattle.proof_log.specs.LemmaBoards.{IsLaterByMore}
use Rattle.theory_search.proofs.putting.put.Given as goal

abbrev pub invariant-equalities : goal.invariant-equalities
invariant-equalities g l = IsLaterByMore (g.B.Board.nodes l.fn.board) (g.B.Board.nodes l.board) (g.B.Board.log l.fn.board) (g.B.Board.log l.board) (g.B.Board.knows l.fn.board) (g.B.Board.knows l.board)
