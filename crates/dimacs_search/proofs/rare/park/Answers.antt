use Rattle.std.proofs.Common.{arith}
use Rattle.dimacs_search.proofs.Holding.{keeping_same, keeping_parked}
use Rattle.dimacs_search.proofs.rare.park.Goals as goal

pub returns-then-number-first-clause-keeping : goal.returns-then-number-first-clause-keeping
returns-then-number-first-clause-keeping c = keeping_same c.args.first c.args.engine.now.watches

pub returns-clause-keeping : goal.returns-clause-keeping
returns-clause-keeping c = keeping_parked c.args.first c.args.number c.args.engine.now.watches c.park.new.self.watches (λ lt. omega (arith, lt, c.if-number-first.false)) c.park.ensures.kept c.park.ensures.others
