use Rattle.cdcl_loop.specs.Engines.{IsEngine, IsOnCourse, IsSameTask, IsSameStore}
use Rattle.dimacs_search.proofs.learning.next_conflict.Given as goal

abbrev pub invariant-decisions : goal.invariant-decisions
invariant-decisions l = record {
  engine : IsEngine l.engine;
  course : IsOnCourse l.engine;
  task : IsSameTask l.fn.engine l.engine;
  store : IsSameStore l.fn.engine.watches l.engine.watches;
}
