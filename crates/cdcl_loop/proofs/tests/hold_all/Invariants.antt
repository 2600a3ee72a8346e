use Rattle.cdcl_loop.specs.Engines.{IsEngine, IsOnCourse}
use Rattle.cdcl_loop.proofs.tests.hold_all.Given as goal

abbrev pub invariant-clauses : goal.invariant-clauses
invariant-clauses l = record {
  engine : IsEngine l.engine;
  course : IsOnCourse l.engine;
}
