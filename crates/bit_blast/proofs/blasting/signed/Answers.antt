use Rattle.circ_plain.proofs.Shifting.{arithmetic_room}
use Rattle.bit_blast.proofs.Room.{shift_fits}
use Rattle.bit_blast.proofs.blasting.signed.Goals as goal

pub ashr-requires-clause-room : goal.ashr-requires-clause-room
ashr-requires-clause-room c = shift_fits _ _ _ _ (arithmetic_room c.args.circuit.now.next c.args.a.now c.args.b.now) c.requires.same c.requires.short c.requires.room
