use Rattle.std.proofs.Common.{◌∙◌}
use Rattle.cnf_base.proofs.Growing.{Gains-all}
use Rattle.circ_plain.proofs.Negating.{neg_number}
use Rattle.circ_plain.proofs.signs.neg.Goals as goal

pub returns-clause-number : goal.returns-clause-number
returns-clause-number c = λ v one holds.
    let opposite = c.as_slice.ensures.value ∙ c.in_ok-opposite.ensures in
    let zeros = c.as_slice-2.ensures.value ∙ c.in_ok-zeros.ensures in
    let gains = rw (opposite, zeros) at c.in_ok-bits.ensures.gains in
    let bits = rw (opposite, zeros) at c.in_ok-bits.ensures.bits in
    rw bits (neg_number v c.args.circuit.now.next c.args.a.now one (Gains-all v _ _ _ gains holds))
