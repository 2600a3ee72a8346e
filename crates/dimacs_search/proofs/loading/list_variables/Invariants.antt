use Rattle.std.proofs.Common.{◌≡◌, ◌-◌, ◌<◌}
use Rattle.cdcl_loop.specs.Engines.{IsEngine, IsOnCourse}
use Rattle.dimacs_search.specs.Searching.{AreListed}
use Rattle.dimacs_search.proofs.loading.list_variables.Given as goal

abbrev pub invariant-variables : goal.invariant-variables
invariant-variables l = record {
  engine : IsEngine l.fn.engine → IsEngine l.engine;
  course : IsOnCourse l.fn.engine → IsOnCourse l.engine;
  watches : l.engine.watches ≡ l.fn.engine.watches;
  given : l.engine.given ≡ l.fn.engine.given;
  from_one : 0 < l.variable;
  listed : AreListed (l.variable - 1) l.engine.agenda.list;
}
