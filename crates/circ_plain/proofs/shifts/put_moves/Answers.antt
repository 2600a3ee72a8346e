use Rattle.std.proofs.Common.{length, ap, arith}
use Rattle.circ_plain.proofs.Shifting.{near_stages, length-move_gates, length-stage_gates}
use Rattle.circ_plain.proofs.Joining.{near_is, far_is, moves_joined}
use Rattle.circ_plain.proofs.shifts.put_moves.Goals as goal

pub put_stages-requires-clause-near : goal.put_stages-requires-clause-near
put_stages-requires-clause-near c =
    rw (near_is (length c.args.a.now) c.stages_of.result c.min-near.result c.args.amount.now c.stages_of.ensures c.min-near.ensures) (near_stages (length c.args.a.now) c.args.amount.now)

pub put_stages-requires-clause-room : goal.put_stages-requires-clause-room
put_stages-requires-clause-room c =
    let near = ap length (near_is (length c.args.a.now) c.stages_of.result c.min-near.result c.args.amount.now c.stages_of.ensures c.min-near.ensures) in
    let all = length-move_gates c.args.way c.args.fill c.args.circuit.now.next c.args.a.now c.args.amount.now in
    rw near (omega (arith, all, c.requires.room))

pub put_any-requires : goal.put_any-requires
put_any-requires c =
    let n = length c.args.a.now in
    let near = near_is n c.stages_of.result c.min-near.result c.args.amount.now c.stages_of.ensures c.min-near.ensures in
    let far = far_is n c.stages_of.result c.min-near.result c.args.amount.now c.stages_of.ensures c.min-near.ensures in
    let first = rw near at c.in_ok-row.ensures.gains in
    let stages = length-stage_gates c.args.way c.args.fill c.args.circuit.now.next 0 c.args.a.now _ (near_stages n c.args.amount.now) in
    let all = length-move_gates c.args.way c.args.fill c.args.circuit.now.next c.args.a.now c.args.amount.now in
    rw far (omega (arith, first.next, stages, all, c.requires.room))

pub returns-clause-gains : goal.returns-clause-gains
returns-clause-gains c =
    let n = length c.args.a.now in
    let near = near_is n c.stages_of.result c.min-near.result c.args.amount.now c.stages_of.ensures c.min-near.ensures in
    let far = far_is n c.stages_of.result c.min-near.result c.args.amount.now c.stages_of.ensures c.min-near.ensures in
    moves_joined c.args.circuit.now c.put_stages.new.circuit c.put_any.new.circuit c.args.way c.args.fill c.args.a.now c.args.amount.now _ _ near far c.in_ok-row.ensures.gains c.in_ok-over.ensures.gains
