use Rattle.std.proofs.Common.{◌<◌, arith}
use Rattle.cdcl_core.proofs.Freeing.{waiting}
use Rattle.cdcl_core.proofs.grow.free_slot.Goals as goal

pub returns-then-place-ne0-clause-waiting : goal.returns-then-place-ne0-clause-waiting
returns-then-place-ne0-clause-waiting c =
    let pos : 0 < c.first-place.result = omega (arith, c.if-place-ne0.true) in
    waiting c.args.w.now c.args.t.now c.first-place.result c.requires.settled c.first-place.ensures.value pos

pub returns-clause-waiting : goal.returns-clause-waiting
returns-clause-waiting c =
    let pos : 0 < c.first-place-2.result = omega (arith, c.first-place-2.ensures.value, c.in_ok-grow_slot.ensures.pending) in
    waiting c.grow_slot.new.w c.args.t.now c.first-place-2.result c.grow_slot.ensures.settled c.first-place-2.ensures.value pos
