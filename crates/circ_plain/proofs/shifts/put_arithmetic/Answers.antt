use Rattle.std.proofs.Common.{◌≡◌, ◌∙◌, length, sym, ap, arith}
use Rattle.std.proofs.lemmas.List.{length-replicate}
use Rattle.circ_plain.specs.declared.moves.Direction.TheVariants.{Down}
use Rattle.circ_plain.proofs.Shifting.{length-move_gates, length-ashr_gates}
use Rattle.circ_plain.proofs.Joining.{ashr_joined, width_is}
use Rattle.circ_plain.proofs.shifts.put_arithmetic.Goals as goal

signs_are : (c : goal.After-as_slice-2) → length c.as_slice.result.now ≡ length c.args.a.now
signs_are c = ap length (c.as_slice.ensures.value ∙ c.in_ok-signs.ensures) ∙ length-replicate (length c.args.a.now) c.sign-fill.result

pub mux-requires-clause-same : goal.mux-requires-clause-same
mux-requires-clause-same c =
    let row = c.as_slice-2.ensures.value ∙ c.in_ok-row.ensures.bits in
    signs_are c ∙ sym (width_is c.args.circuit.now.next c.args.a.now c.args.amount.now c.as_slice-2.result.now row)

pub mux-requires-clause-room : goal.mux-requires-clause-room
mux-requires-clause-room c =
    let g = c.args.circuit.now.next in
    let moves = length-move_gates Down c.sign-fill.result g c.args.a.now c.args.amount.now in
    let all = length-ashr_gates g c.args.a.now c.args.amount.now in
    omega (arith, signs_are c, moves, all, c.in_ok-row.ensures.gains.next, c.requires.room)

pub returns-clause-gains : goal.returns-clause-gains
returns-clause-gains c =
    let row = c.as_slice-2.ensures.value ∙ c.in_ok-row.ensures.bits in
    let signs = c.as_slice.ensures.value ∙ c.in_ok-signs.ensures in
    ashr_joined c.args.circuit.now c.put_moves.new.circuit c.mux.new.self c.args.a.now c.args.amount.now c.as_slice-2.result.now c.as_slice.result.now c.in_ok-row.over c.sign-fill.result c.sign-fill.ensures c.in_ok-row.ensures.over row signs c.in_ok-row.ensures.gains c.in_ok-bits.ensures.gains
