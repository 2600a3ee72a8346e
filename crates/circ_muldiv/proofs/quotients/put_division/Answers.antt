use Rattle.std.proofs.Common.{◌∙◌, ap, length, arith}
use Rattle.circ_muldiv.proofs.Places.{division_rest, division_room, division_more}
use Rattle.circ_muldiv.proofs.quotients.put_division.Goals as goal

pub put_place-requires-clause-longer : goal.put_place-requires-clause-longer
put_place-requires-clause-longer c =
    ap length c.as_slice.ensures.value ∙ division_rest _ _ _ _ c.args.a.now c.args.b.now c.loop-i.i c.loop-i.invariant

pub put_place-requires-clause-room : goal.put_place-requires-clause-room
put_place-requires-clause-room c =
    division_room _ _ _ _ c.args.a.now c.args.b.now c.loop-i.i c.requires.same c.loop-i-test.true (omega arith) c.requires.room c.loop-i.invariant

pub loop-i-preserved : goal.loop-i-preserved
loop-i-preserved c =
    division_more _ _ _ _ _ _ _ _ c.args.a.now c.args.b.now c.index-a-i.result _ c.loop-i.i c.loop-i-test.true (omega arith) c.index-a-i.is c.loop-i.invariant c.as_slice.ensures.value c.in_ok-bit.ensures.gains c.in_ok-bit.ensures.bit c.in_ok-bit.ensures.rest c.in_ok-push.ensures.items
