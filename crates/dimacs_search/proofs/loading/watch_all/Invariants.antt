use Rattle.std.proofs.Common.{◌≡◌}
use Rattle.cdcl_core.specs.Search.{level_of}
use Rattle.cdcl_loop.specs.Engines.{IsTrailOf}
use Rattle.dimacs_search.specs.Searching.{AreHeld, AreOnly}
use Rattle.dimacs_search.proofs.loading.watch_all.Given as goal

abbrev pub invariant-clauses : goal.invariant-clauses
invariant-clauses l = record {
  trail : IsTrailOf l.watches l.trail;
  level : level_of l.trail ≡ 0;
  held : AreHeld l.cnf l.place l.watches;
  only : AreOnly l.cnf l.place l.watches;
}
