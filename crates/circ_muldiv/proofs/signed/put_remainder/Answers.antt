use Rattle.std.proofs.Common.{◌∙◌, ap, length, arith}
use Rattle.circ_muldiv.proofs.Assembling.{are_divided, magnitudes_next, srem_gained, srem_bits_are}
use Rattle.circ_muldiv.proofs.Counting.{length-magnitudes_remainder}
use Rattle.circ_muldiv.proofs.signed.put_remainder.Goals as goal

pub signed-requires : goal.signed-requires
signed-requires c =
    let long = ap length (c.as_slice.ensures.value ∙ c.in_ok-_quotient.ensures.remainder) ∙ length-magnitudes_remainder _ c.args.a.now c.args.b.now in
    let first = magnitudes_next _ _ c.args.a.now c.args.b.now c.requires.same c.in_ok-_quotient.ensures.gains in
    omega (arith, long, first, c.requires.same, c.requires.room)

pub returns-clause-gains : goal.returns-clause-gains
returns-clause-gains c =
    let divided = are_divided _ _ c.args.a.now c.args.b.now _ _ c.in_ok-_quotient.ensures.gains c.in_ok-_quotient.ensures.quotient c.in_ok-_quotient.ensures.remainder in
    srem_gained _ _ _ c.args.a.now c.args.b.now _ _ _ _ divided c.as_slice.ensures.value c.sign.ensures c.in_ok-bits.ensures.gains

pub returns-clause-bits : goal.returns-clause-bits
returns-clause-bits c =
    let divided = are_divided _ _ c.args.a.now c.args.b.now _ _ c.in_ok-_quotient.ensures.gains c.in_ok-_quotient.ensures.quotient c.in_ok-_quotient.ensures.remainder in
    srem_bits_are _ _ c.args.a.now c.args.b.now _ _ _ _ divided c.as_slice.ensures.value c.in_ok-bits.ensures.bits
