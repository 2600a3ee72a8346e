use Rattle.std.proofs.Common.{ℕ, ◌≡◌, ◌≤◌, ◌<◌, true}
use Rattle.proof_log.specs.Logs.{entry_at}
use Rattle.proof_log.specs.Diaries.{is_chain}
use Rattle.cube_search.specs.Keeping.{HasLine}
use Rattle.cube_search.specs.Running.{IsRunning, IsWriting, IsSameRun}
use Rattle.cube_search.proofs.search.Search.take_news.Given as goal

abbrev pub invariant-news : goal.invariant-news
invariant-news g l = record {
  run : IsSameRun l.fn.self l.self;
  seen : l.self.seen ≡ l.fn.self.seen;
  running : IsRunning l.self (g.B.Board.nodes l.board) (g.B.Board.log l.board);
  writing : IsWriting l.fn.self (g.B.Board.nodes l.fn.board) (g.B.Board.log l.fn.board) → IsWriting l.self (g.B.Board.nodes l.board) (g.B.Board.log l.board);
  lined : IsWriting l.fn.self (g.B.Board.nodes l.fn.board) (g.B.Board.log l.fn.board) → (p : ℕ) → l.self.diary.start ≤ p → p < l.at → is_chain (entry_at (g.B.Board.log l.board) p) ≡ true → HasLine l.self.diary.lines.items p;
}
