use Rattle.std.proofs.Common.{◌∙◌, sym, ap, length, refl, arith}
use Rattle.cnf_base.proofs.Rows.{length-fresh_bits}
use Rattle.circ_muldiv.proofs.Building.{row_after, sum_gained}
use Rattle.circ_muldiv.proofs.products.put_sum.Goals as goal

pub add_with-requires-clause-same : goal.add_with-requires-clause-same
add_with-requires-clause-same c =
    let row = c.as_slice.ensures.value ∙ c.in_ok-row.ensures.bits in
    c.requires.same ∙ sym (ap length row ∙ length-fresh_bits (length c.args.a.now) c.args.circuit.now.next)

pub add_with-requires-clause-room : goal.add_with-requires-clause-room
add_with-requires-clause-room c =
    let after = row_after _ _ c.args.a.now c.args.b c.in_ok-row.ensures.gains in
    omega (arith, after, c.requires.same, c.requires.room)

pub returns-clause-gains : goal.returns-clause-gains
returns-clause-gains c =
    let row = c.as_slice.ensures.value ∙ c.in_ok-row.ensures.bits in
    sum_gained _ _ _ c.args.places.now c.args.a.now _ c.args.b c.in_ok-row.ensures.gains row c.in_ok-sum.ensures.gains

pub returns-clause-bits : goal.returns-clause-bits
returns-clause-bits c =
    let row = c.as_slice.ensures.value ∙ c.in_ok-row.ensures.bits in
    let after = row_after _ _ c.args.a.now c.args.b c.in_ok-row.ensures.gains in
    c.in_ok-sum.ensures.bits ∙ rw (row, after) refl
