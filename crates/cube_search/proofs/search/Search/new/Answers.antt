use Rattle.std.proofs.Common.{rules, ap, ◌∙◌}
use Rattle.cdcl_core.specs.declared.watches.Watches.{Watches}
use Rattle.cdcl_core.specs.Search.{clause_of, held_of}
use Rattle.cdcl_loop.specs.Engines.{IsEngine}
use Rattle.cube_search.proofs.Resting.{nothing_rests}
use Rattle.cube_search.proofs.search.Search.new.Goals as goal

pub returns : goal.returns
returns c =
    let engine : IsEngine c.new-engine.result = search rules in
    nothing_rests _ engine
    (λ id. ap (λ (w : Watches). clause_of w id) c.new-engine.ensures.watches ∙ c.in_ok-watches.ensures.kept id)
    (λ id. ap (λ (w : Watches). held_of w id) c.new-engine.ensures.watches ∙ c.in_ok-watches.ensures.held id)
    c.new-engine.ensures.listed c.new-2.ensures.items c.new-3.ensures.items c.new-5.ensures.items
