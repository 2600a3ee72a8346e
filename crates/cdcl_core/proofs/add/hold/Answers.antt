use Rattle.std.proofs.Common.{◌≢◌}
use Rattle.cdcl_core.specs.Stamps.{codes, Has}
use Rattle.cdcl_core.proofs.add.hold.Goals as goal

pub watch-requires-clause-has_a : goal.watch-requires-clause-has_a
watch-requires-clause-has_a c =
    let has_b : Has (codes c.args.clause) c.latest-b.result = rw (← c.literals-2.ensures) (c.latest-b.ensures.has c.if-b-eq0.false) in
    let some : c.latest-a.result ≢ 0 = λ z. c.if-b-eq0.false (c.latest-a.ensures.none z c.latest-b.result (rw c.literals.ensures has_b)) in
    rw (← c.literals.ensures) (c.latest-a.ensures.has some)
