use Rattle.std.proofs.Common.{ℕ, ◌≡◌, ◌≤◌, ◌<◌, ◌⊎◌, true}
use Rattle.std.specs.Prelude.{Contains}
use Rattle.proof_log.specs.Logs.{entry_at}
use Rattle.cdcl_core.specs.Search.{level_of}
use Rattle.cdcl_loop.specs.Engines.{IsEngine}
use Rattle.cube_search.specs.Keeping.{is_theory}
use Rattle.cube_search.specs.Running.{IsAdding}
use Rattle.cube_search.proofs.search.Search.hold_steps.Given as goal

abbrev pub invariant-steps : goal.invariant-steps
invariant-steps g l = record {
  engine : IsEngine l.self.engine;
  level : level_of l.self.engine.trail ≡ 0;
  adding : IsAdding (g.B.Board.nodes l.board) (g.B.Board.log l.board) l.fn.self l.self;
  all : (p : ℕ) → l.fn.self.seen ≤ p → p < l.at → is_theory (entry_at (g.B.Board.log l.board) p) ≡ true → Contains l.self.opening.items p;
  low : l.fn.self.seen ≤ l.at;
  came : (p : ℕ) → Contains l.self.opening.items p → Contains l.fn.self.opening.items p ⊎ ((l.fn.self.seen ≤ p) × (p < l.at) × (l.at ≤ l.upto));
}
