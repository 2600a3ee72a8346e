use Rattle.std.proofs.Common.{◌∙◌}
use Rattle.cnf_base.proofs.Growing.{Gains-all}
use Rattle.circ_plain.proofs.Comparing.{slt_is}
use Rattle.circ_plain.proofs.orders.slt.Goals as goal

pub returns-clause-order : goal.returns-clause-order
returns-clause-order c = λ v one holds.
    let left = c.as_slice.ensures.value ∙ c.in_ok-left.ensures in
    let right = c.as_slice-2.ensures.value ∙ c.in_ok-right.ensures in
    let gains = rw (left, right, c.sign.ensures, c.sign-2.ensures) at c.in_ok-below.ensures.gains in
    let literal = rw (left, right, c.sign.ensures, c.sign-2.ensures) at c.in_ok-below.ensures.literal in
    rw literal (slt_is v c.args.circuit.now.next c.args.a.now c.args.b.now one c.requires.some c.requires.same (Gains-all v _ _ _ gains holds))
