use Rattle.std.proofs.Common.{rules, ◌≡◌, ◌<◌, length, vec_len, arith}
use Rattle.std.proofs.lemmas.List.{get_or_read}
use Rattle.cdcl_core.specs.declared.watches.Kind.TheVariants.{Free}
use Rattle.cdcl_core.proofs.Parking.{parked_none, parked_more, parked_all}
use Rattle.cdcl_core.proofs.park.park_kinds.Goals as goal

pub loop-slot-init : goal.loop-slot-init
loop-slot-init c = parked_none c.args.kinds.now.items

pub loop-slot-preserved : goal.loop-slot-preserved
loop-slot-preserved c =
    let size : vec_len c.args.kinds.now ≡ length c.args.kinds.now.items = search rules in
    let within : c.loop-slot.slot < length c.loop-slot.kinds.items = omega (arith, c.loop-slot.invariant.size, c.loop-slot-test.true, c.len-slot-end.ensures, size) in
    parked_more c.args.kinds.now.items c.loop-slot.kinds.items c.loop-slot.slot c.index.result.now c.parked.result within
    (get_or_read c.loop-slot.kinds.items c.loop-slot.slot c.index.result.now within c.index.ensures Free) c.parked.ensures c.loop-slot.invariant

pub returns-clause-parked : goal.returns-clause-parked
returns-clause-parked c = λ q.
    let size : vec_len c.args.kinds.now ≡ length c.args.kinds.now.items = search rules in
    parked_all c.args.kinds.now.items c.loop-slot.kinds.items c.loop-slot.slot q (omega (arith, c.loop-slot.invariant.size, c.loop-slot-test.false, c.len-slot-end.ensures, size)) c.loop-slot.invariant
