use Rattle.std.proofs.Common.{◌∙◌, sym, ap, length, arith}
use Rattle.cnf_base.specs.Assignments.{fresh_bits}
use Rattle.circ_muldiv.proofs.Places.{are_operands, operands_long, difference_long, difference_room, place_gained, place_left}
use Rattle.circ_muldiv.proofs.quotients.put_place.Goals as goal

pub mux-requires-clause-same : goal.mux-requires-clause-same
mux-requires-clause-same c =
    let o = are_operands _ _ _ _ _ _ _ c.requires.longer c.as_slice.ensures.value c.in_ok-up.ensures c.as_slice-2.ensures.value c.in_ok-complement.ensures in
    let up = operands_long _ _ _ _ _ o in
    let difference = difference_long _ _ _ _ _ _ _ o c.in_ok-difference.ensures.bits in
    let again = c.as_slice-4.ensures.value ∙ sym c.as_slice.ensures.value in
    ap length c.as_slice-3.ensures.value ∙ difference ∙ sym (ap length again ∙ up.0)

pub mux-requires-clause-room : goal.mux-requires-clause-room
mux-requires-clause-room c =
    let o = are_operands _ _ _ _ _ _ _ c.requires.longer c.as_slice.ensures.value c.in_ok-up.ensures c.as_slice-2.ensures.value c.in_ok-complement.ensures in
    let difference = difference_long _ _ _ _ _ _ _ o c.in_ok-difference.ensures.bits in
    let next = difference_room _ _ _ _ _ _ _ o c.in_ok-difference.ensures.gains in
    omega (arith, ap length c.as_slice-3.ensures.value, difference, next, c.requires.room)

pub returns-clause-gains : goal.returns-clause-gains
returns-clause-gains c =
    let o = are_operands _ _ _ _ _ _ _ c.requires.longer c.as_slice.ensures.value c.in_ok-up.ensures c.as_slice-2.ensures.value c.in_ok-complement.ensures in
    let again = c.as_slice-4.ensures.value ∙ sym c.as_slice.ensures.value in
    place_gained _ _ _ _ _ _ _ _ _ _ _ _ o c.in_ok-difference.ensures.gains c.in_ok-difference.ensures.bits c.in_ok-difference.ensures.carry c.as_slice-3.ensures.value again c.in_ok-left.ensures.gains

pub returns-clause-rest : goal.returns-clause-rest
returns-clause-rest c =
    let o = are_operands _ _ _ _ _ _ _ c.requires.longer c.as_slice.ensures.value c.in_ok-up.ensures c.as_slice-2.ensures.value c.in_ok-complement.ensures in
    place_left _ _ _ _ _ _ _ _ _ o c.in_ok-difference.ensures.gains c.in_ok-difference.ensures.bits (c.in_ok-left.ensures.bits ∙ ap (λ d. fresh_bits c.add_with.new.self.next (length d)) c.as_slice-3.ensures.value)
