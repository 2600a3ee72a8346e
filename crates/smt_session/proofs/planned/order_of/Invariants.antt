use Rattle.std.proofs.Common.{◌<◌}
use Rattle.std.specs.Prelude.{All}
use Rattle.smt_session.proofs.planned.order_of.Given as goal

abbrev pub invariant-steps : goal.invariant-steps
invariant-steps l = All (λ t. t < l.from) l.order.items
