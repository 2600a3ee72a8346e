use Rattle.cdcl_core.specs.Search.{clause_of}
use Rattle.cdcl_learn.proofs.Tops.{IsInLevel}
use Rattle.cdcl_learn.specs.Walks.{IsWalk, IsTop, MeetsReasons}
use Rattle.std.proofs.Common.{◌-◌}
use Rattle.cdcl_learn.proofs.learning.find_unique.Given as goal

abbrev pub invariant-level : goal.invariant-level
invariant-level l = record {
  walk : IsWalk (clause_of l.watches) l.rows l.walk;
  at : IsInLevel l.rows l.walk.marks l.level l.end;
  rest : IsTop l.walk.marks (l.end - 1) l.rest;
  met : MeetsReasons l.rows l.fn.walk.hints.items l.walk.hints.items;
}

abbrev pub decreases-level : goal.decreases-level
decreases-level l = l.end
