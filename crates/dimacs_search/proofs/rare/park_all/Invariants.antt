use Rattle.std.proofs.Common.{◌≡◌}
use Rattle.cdcl_loop.specs.Engines.{IsEngine}
use Rattle.dimacs_search.specs.Searching.{IsKeeping}
use Rattle.dimacs_search.proofs.rare.park_all.Given as goal

abbrev pub invariant-numbers : goal.invariant-numbers
invariant-numbers l = record {
  same : l.engine ≡ record l.fn.engine { watches = l.engine.watches };
  engine : IsEngine l.engine;
  keeping : IsKeeping l.first l.fn.engine.watches l.engine.watches;
}
