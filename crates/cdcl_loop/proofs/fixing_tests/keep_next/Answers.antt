use Rattle.std.proofs.Common.{rules, ◌≡◌, None, ap, ◌∙◌}
use Rattle.cdcl_core.specs.Search.{clause_of}
use Rattle.cdcl_loop.specs.declared.engine.Engine.{Engine}
use Rattle.cdcl_loop.proofs.fixing_tests.keep_next.Goals as goal

pub keep_unit-requires-clause-fresh : goal.keep_unit-requires-clause-fresh
keep_unit-requires-clause-fresh c =
    let none : clause_of c.args.engine.now.watches (record { pos = c.args.at; part = 0 }) ≡ None = search rules in
    ap (λ (e : Engine). clause_of e.watches (record { pos = c.args.at; part = 0 })) c.next_unit.ensures.same ∙ none
