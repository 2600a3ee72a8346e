use Rattle.std.proofs.Common.{◌≡◌, arith}
use Rattle.cdcl_core.specs.Search.{level_of}
use Rattle.cdcl_loop.proofs.Restating.{some_both}
use Rattle.cdcl_loop.proofs.engine.Engine.next_unit.Goals as goal

pub returns-clause-unit : goal.returns-clause-unit
returns-clause-unit c =
    let zero : level_of c.args.self.now.trail ≡ 0 = omega (arith, c.level.ensures, c.if-level-ne0.false) in
    some_both c.in_ok-found.found _ zero c.in_ok-found.ensures
