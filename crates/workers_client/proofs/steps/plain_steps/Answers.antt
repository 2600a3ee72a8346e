use Rattle.std.proofs.Common.{arith}
use Rattle.workers_client.proofs.Asking.{plain_none, plain_more, plain_all}
use Rattle.workers_client.proofs.steps.plain_steps.Goals as goal

pub steps-init : goal.steps-init
steps-init c = plain_none c.args.log.now.entries c.new-positions.result.items c.new-positions.ensures.items

pub steps-preserved : goal.steps-preserved
steps-preserved c =
    plain_more c.args.log.now.entries c.steps.at c.steps.positions.items c.keep.new.positions.items c.is_chain.result c.is_chain.ensures c.in_ok-keep.ensures.old c.in_ok-keep.ensures.new c.in_ok-keep.ensures.only c.steps.invariant

pub returns : goal.returns
returns c = plain_all c.args.log.now.entries c.steps.positions.items c.steps.at (omega (arith, c.len-at-end.ensures, c.steps-test.false, c.steps.auto.at-end)) c.steps.invariant
