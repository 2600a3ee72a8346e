use Rattle.circ_plain.proofs.Shifting.{shl_room, lshr_room}
use Rattle.bit_blast.proofs.Room.{shift_fits}
use Rattle.bit_blast.proofs.blasting.paired.Goals as goal

pub shl-requires : goal.shl-requires
shl-requires c = record { room = shift_fits _ _ _ _ (shl_room c.args.circuit.now.next c.args.a.now c.args.b.now) c.requires.same c.requires.short c.requires.room }

pub lshr-requires : goal.lshr-requires
lshr-requires c = record { room = shift_fits _ _ _ _ (lshr_room c.args.circuit.now.next c.args.a.now c.args.b.now) c.requires.same c.requires.short c.requires.room }
