use Rattle.std.proofs.Common.{arith}
use Rattle.cdcl_core.proofs.Parking.{emptied_none, emptied_more, emptied_less}
use Rattle.cdcl_core.proofs.park.empty_lists.Goals as goal

pub loop-code-init : goal.loop-code-init
loop-code-init c = emptied_none c.args.lists.now

pub empty-requires : goal.empty-requires
empty-requires c = omega (arith, c.loop-code.invariant.size, c.loop-code-test.true, c.requires)

pub loop-code-preserved : goal.loop-code-preserved
loop-code-preserved c = rw c.empty.ensures (emptied_more c.args.lists.now c.loop-code.lists c.loop-code.code (omega (arith, c.loop-code-test.true, c.requires)) c.loop-code.auto.code c.loop-code.invariant)

pub returns : goal.returns
returns c = emptied_less c.args.lists.now c.loop-code.lists c.loop-code.code c.args.count (omega (arith, c.loop-code-test.false)) c.loop-code.invariant
