use Rattle.std.proofs.Common.{◌≡◌}
use Rattle.cdcl_core.specs.Search.{level_of}
use Rattle.cdcl_loop.specs.Engines.{IsEngine, IsOnCourse, IsSameTask}
use Rattle.dimacs_search.specs.Searching.{IsKeeping}
use Rattle.dimacs_search.proofs.rare.wake_all.Given as goal

abbrev pub invariant-numbers : goal.invariant-numbers
invariant-numbers l = record {
  engine : IsEngine l.engine;
  level : level_of l.engine.trail ≡ 0;
  course : IsOnCourse l.fn.engine → IsOnCourse l.engine;
  task : IsSameTask l.fn.engine l.engine;
  keeping : IsKeeping l.first l.fn.engine.watches l.engine.watches;
}
