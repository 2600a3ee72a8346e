use Rattle.std.proofs.Common.{arith}
use Rattle.smt_build.proofs.Images.{instance_past}
use Rattle.smt_build.proofs.definition.instance.Goals as goal

pub returns-then-body-len-clause-means : goal.returns-then-body-len-clause-means
returns-then-body-len-clause-means c = instance_past c.args.terms.now c.args.body c.args.args.now (omega (arith, c.len.ensures.length))

pub made_in_order-requires-clause-rising : goal.made_in_order-requires-clause-rising
made_in_order-requires-clause-rising c = rw c.as_slice.ensures.value c.in_ok-order.ensures
