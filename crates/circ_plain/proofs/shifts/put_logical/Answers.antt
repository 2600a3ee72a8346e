use Rattle.std.proofs.Common.{◌∙◌, arith}
use Rattle.circ_plain.proofs.Shifting.{length-move_gates, length-logical_gates}
use Rattle.circ_plain.proofs.Joining.{logical_joined, logical_bits_are, width_is}
use Rattle.cnf_base.specs.Literals.{false_literal}
use Rattle.circ_plain.proofs.shifts.put_logical.Goals as goal

pub put_mask-requires : goal.put_mask-requires
put_mask-requires c =
    let g = c.args.circuit.now.next in
    let row = c.as_slice.ensures.value ∙ c.in_ok-row.ensures.bits in
    let width = width_is g c.args.a.now c.args.amount.now c.as_slice.result.now row in
    let moves = length-move_gates c.args.way false_literal g c.args.a.now c.args.amount.now in
    let all = length-logical_gates c.args.way g c.args.a.now c.args.amount.now in
    omega (arith, width, moves, all, c.in_ok-row.ensures.gains.next, c.requires.room)

pub returns-clause-gains : goal.returns-clause-gains
returns-clause-gains c =
    let row = c.as_slice.ensures.value ∙ c.in_ok-row.ensures.bits in
    logical_joined c.args.circuit.now c.put_moves.new.circuit c.put_mask.new.circuit c.args.way c.args.a.now c.args.amount.now c.as_slice.result.now c.in_ok-row.over c.negated.result c.in_ok-row.ensures.over c.negated.ensures row c.in_ok-row.ensures.gains c.in_ok-bits.ensures.gains

pub returns-clause-bits : goal.returns-clause-bits
returns-clause-bits c =
    let row = c.as_slice.ensures.value ∙ c.in_ok-row.ensures.bits in
    logical_bits_are c.args.circuit.now c.put_moves.new.circuit c.args.way c.args.a.now c.args.amount.now c.as_slice.result.now c.in_ok-bits.bits.items row c.in_ok-row.ensures.gains c.in_ok-bits.ensures.bits
