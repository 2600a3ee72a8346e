use Rattle.std.proofs.Common.{ℕ, ◌≡◌, ◌<◌, false}
use Rattle.std.specs.Prelude.{Contains}
use Rattle.proof_log.specs.Logs.{entry_at}
use Rattle.proof_log.specs.Diaries.{is_chain}
use Rattle.search_client.proofs.runs.positions.Given as goal

abbrev pub invariant-positions : goal.invariant-positions
invariant-positions g l = record {
  below : (p : ℕ) → Contains l.positions.items p → p < l.at;
  plain : (p : ℕ) → Contains l.positions.items p → is_chain (entry_at (g.B.Board.log l.board) p) ≡ false;
}
