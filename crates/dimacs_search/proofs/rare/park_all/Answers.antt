use Rattle.std.proofs.Common.{refl, ap, ◌∙◌}
use Rattle.cdcl_core.specs.Search.{level_of}
use Rattle.cdcl_loop.specs.declared.engine.Engine.{Engine}
use Rattle.dimacs_search.proofs.Holding.{keeping_same, keeping_then}
use Rattle.dimacs_search.proofs.rare.park_all.Goals as goal

pub numbers-init : goal.numbers-init
numbers-init c = record { same = refl; engine = c.requires.engine; keeping = keeping_same c.args.first c.args.engine.now.watches }

pub park-requires-clause-level : goal.park-requires-clause-level
park-requires-clause-level c = ap (λ (e : Engine). level_of e.trail) c.numbers.invariant.same ∙ c.requires.level

pub numbers-preserved : goal.numbers-preserved
numbers-preserved c = record {
  same = c.park.ensures.same ∙ ap (λ (e : Engine). record e { watches = c.park.new.engine.watches }) c.numbers.invariant.same;
  engine = c.park.ensures.engine;
  keeping = keeping_then c.args.first c.args.engine.now.watches c.numbers.engine.watches c.park.new.engine.watches c.numbers.invariant.keeping c.park.ensures.keeping;
}
