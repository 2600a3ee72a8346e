use Rattle.cdcl_loop.specs.Engines.{IsEngine, IsOnCourse}
use Rattle.cdcl_loop.proofs.restart_tests.learn_under.Given as goal

abbrev pub invariant-decisions : goal.invariant-decisions
invariant-decisions l = record {
  engine : IsEngine l.engine;
  course : IsOnCourse l.engine;
}
