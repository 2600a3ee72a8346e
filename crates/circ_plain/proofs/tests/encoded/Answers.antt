use Rattle.std.proofs.Common.{length, arith}
use Rattle.std.proofs.Math.Nat.{mul-le-mul}
use Rattle.circ_plain.specs.declared.moves.Direction.TheVariants.{Up, Down}
use Rattle.circ_plain.proofs.Shifting.{logical_room, arithmetic_room}
use Rattle.circ_plain.proofs.tests.encoded.Goals as goal

pub shl-requires : goal.shl-requires
shl-requires c =
    let few = mul-le-mul {n₁ = length c.args.a.now} {m₁ = length c.args.b.now} {n₂ = 4} {m₂ = 4} (omega arith) (omega arith) in
    record { room = omega (arith, few, logical_room Up c.args.circuit.now.next c.args.a.now c.args.b.now) }

pub lshr-requires : goal.lshr-requires
lshr-requires c =
    let few = mul-le-mul {n₁ = length c.args.a.now} {m₁ = length c.args.b.now} {n₂ = 4} {m₂ = 4} (omega arith) (omega arith) in
    record { room = omega (arith, few, logical_room Down c.args.circuit.now.next c.args.a.now c.args.b.now) }

pub ashr-requires-clause-room : goal.ashr-requires-clause-room
ashr-requires-clause-room c =
    let few = mul-le-mul {n₁ = length c.args.a.now} {m₁ = length c.args.b.now} {n₂ = 4} {m₂ = 4} (omega arith) (omega arith) in
    omega (arith, few, arithmetic_room c.args.circuit.now.next c.args.a.now c.args.b.now)
