use Rattle.std.proofs.Common.{◌∙◌, length, ap, arith}
use Rattle.cnf_base.proofs.Growing.{Gains-all}
use Rattle.circ_plain.proofs.Negating.{signed_joined, signed_bits_are, signed_number, length-neg_bits, length-neg_gates}
use Rattle.circ_plain.proofs.signs.signed.Goals as goal

pub mux-requires-clause-same : goal.mux-requires-clause-same
mux-requires-clause-same c =
    ap length (c.as_slice.ensures.value ∙ c.in_ok-negation.ensures.bits) ∙ length-neg_bits c.part-added.result.next c.args.a.now

pub mux-requires-clause-room : goal.mux-requires-clause-room
mux-requires-clause-room c =
    let turned = mux-requires-clause-same c in
    let start = ap (λ s. s.next) c.part-added.ensures in
    omega (arith, turned, start, c.in_ok-negation.ensures.gains.next, length-neg_gates c.part-added.result.next c.args.a.now, c.requires)

pub returns-clause-gains : goal.returns-clause-gains
returns-clause-gains c =
    let first = rw c.part-added.ensures at c.in_ok-negation.ensures.gains in
    let turned = c.as_slice.ensures.value ∙ (rw c.part-added.ensures at c.in_ok-negation.ensures.bits) in
    c.in_ok-append.ensures.gains _ (signed_joined _ _ _ c.args.negative _ _ first turned c.in_ok-bits.ensures.gains)

pub returns-clause-bits : goal.returns-clause-bits
returns-clause-bits c =
    let first = rw c.part-added.ensures at c.in_ok-negation.ensures.gains in
    let turned = c.as_slice.ensures.value ∙ (rw c.part-added.ensures at c.in_ok-negation.ensures.bits) in
    signed_bits_are _ _ _ _ _ first turned c.in_ok-bits.ensures.bits

pub returns-clause-number : goal.returns-clause-number
returns-clause-number c = λ v one holds.
    rw (returns-clause-bits c) (signed_number v c.args.circuit.now.next c.args.negative c.args.a.now one (Gains-all v _ _ _ (returns-clause-gains c) holds))
