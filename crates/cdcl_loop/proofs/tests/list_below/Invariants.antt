use Rattle.std.proofs.Common.{◌<◌}
use Rattle.cdcl_loop.specs.Engines.{IsEngine, IsOnCourse}
use Rattle.cdcl_loop.proofs.tests.list_below.Given as goal

abbrev pub invariant-variables : goal.invariant-variables
invariant-variables l = record {
  engine : IsEngine l.fn.engine → IsEngine l.engine;
  course : IsOnCourse l.fn.engine → IsOnCourse l.engine;
  from_one : 0 < l.variable;
}
