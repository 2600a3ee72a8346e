use Rattle.std.proofs.Common.{◌∙◌, sym, ap, length, arith}
use Rattle.circ_plain.proofs.Negating.{length-neg_bits}
use Rattle.circ_muldiv.proofs.Assembling.{are_divided, magnitudes_next, neg_next, sdiv_gained, sdiv_bits_are}
use Rattle.circ_muldiv.proofs.Counting.{length-magnitudes_quotient}
use Rattle.circ_muldiv.proofs.signed.put_quotient.Goals as goal

pub neg-requires : goal.neg-requires
neg-requires c =
    let long = ap length (c.as_slice.ensures.value ∙ c.in_ok-quotient.ensures.quotient) ∙ length-magnitudes_quotient _ c.args.a.now c.args.b.now in
    let first = magnitudes_next _ _ c.args.a.now c.args.b.now c.requires.same c.in_ok-quotient.ensures.gains in
    omega (arith, long, first, c.requires.room)

pub gate-requires : goal.gate-requires
gate-requires c =
    let long = ap length (c.as_slice.ensures.value ∙ c.in_ok-quotient.ensures.quotient) ∙ length-magnitudes_quotient _ c.args.a.now c.args.b.now in
    let first = magnitudes_next _ _ c.args.a.now c.args.b.now c.requires.same c.in_ok-quotient.ensures.gains in
    let second = neg_next _ _ c.as_slice.result.now c.in_ok-negation.ensures.gains in
    omega (arith, long, first, second, c.requires.room)

pub mux-requires-clause-same : goal.mux-requires-clause-same
mux-requires-clause-same c =
    let negation = ap length (c.as_slice-2.ensures.value ∙ c.in_ok-negation.ensures.bits) ∙ length-neg_bits _ c.as_slice.result.now in
    negation ∙ ap length (c.as_slice.ensures.value ∙ sym c.as_slice-3.ensures.value)

pub mux-requires-clause-room : goal.mux-requires-clause-room
mux-requires-clause-room c =
    let long = ap length (c.as_slice.ensures.value ∙ c.in_ok-quotient.ensures.quotient) ∙ length-magnitudes_quotient _ c.args.a.now c.args.b.now in
    let negation = ap length (c.as_slice-2.ensures.value ∙ c.in_ok-negation.ensures.bits) ∙ length-neg_bits _ c.as_slice.result.now in
    let first = magnitudes_next _ _ c.args.a.now c.args.b.now c.requires.same c.in_ok-quotient.ensures.gains in
    let second = neg_next _ _ c.as_slice.result.now c.in_ok-negation.ensures.gains in
    omega (arith, long, negation, first, second, c.in_ok-differ.ensures.gains.next, c.requires.room)

pub returns-clause-gains : goal.returns-clause-gains
returns-clause-gains c =
    let parts = are_divided _ _ c.args.a.now c.args.b.now _ _ c.in_ok-quotient.ensures.gains c.in_ok-quotient.ensures.quotient c.in_ok-quotient.ensures.remainder in
    let negation = c.as_slice-2.ensures.value ∙ c.in_ok-negation.ensures.bits in
    sdiv_gained _ _ _ _ _ c.args.a.now c.args.b.now _ _ _ _ _ _ _ _ parts c.as_slice.ensures.value c.in_ok-negation.ensures.gains negation c.sign.ensures c.sign-2.ensures c.in_ok-differ.ensures.gains c.in_ok-differ.ensures.literal c.as_slice-3.ensures.value c.in_ok-bits.ensures.gains

pub returns-clause-bits : goal.returns-clause-bits
returns-clause-bits c =
    let parts = are_divided _ _ c.args.a.now c.args.b.now _ _ c.in_ok-quotient.ensures.gains c.in_ok-quotient.ensures.quotient c.in_ok-quotient.ensures.remainder in
    let negation = c.as_slice-2.ensures.value ∙ c.in_ok-negation.ensures.bits in
    sdiv_bits_are _ _ _ _ c.args.a.now c.args.b.now _ _ _ _ _ _ _ parts c.as_slice.ensures.value c.in_ok-negation.ensures.gains negation c.in_ok-differ.ensures.gains c.in_ok-bits.ensures.bits
