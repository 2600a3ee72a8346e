use Rattle.std.proofs.Common.{length}
use Rattle.bit_blast.proofs.Arithmetic.{product_fits, division_fits, signed_quotient_fits, signed_remainder_fits, signed_modulus_fits}
use Rattle.bit_blast.proofs.blasting.multiplied.Goals as goal

pub mul-requires-clause-room : goal.mul-requires-clause-room
mul-requires-clause-room c = product_fits c.args.circuit.now.next (length c.args.a.now) c.requires.short c.requires.room

pub divide-requires-clause-room : goal.divide-requires-clause-room
divide-requires-clause-room c = division_fits c.args.circuit.now.next (length c.args.a.now) c.requires.short c.requires.room

pub divide-requires-in-Bvurem-clause-room : goal.divide-requires-in-Bvurem-clause-room
divide-requires-in-Bvurem-clause-room c = division_fits c.args.circuit.now.next (length c.args.a.now) c.requires.short c.requires.room

pub sdiv-requires-clause-room : goal.sdiv-requires-clause-room
sdiv-requires-clause-room c = signed_quotient_fits c.args.circuit.now.next (length c.args.a.now) c.requires.short c.requires.room

pub srem-requires-clause-room : goal.srem-requires-clause-room
srem-requires-clause-room c = signed_remainder_fits c.args.circuit.now.next (length c.args.a.now) c.requires.short c.requires.room

pub smod-requires-clause-room : goal.smod-requires-clause-room
smod-requires-clause-room c = signed_modulus_fits c.args.circuit.now.next (length c.args.a.now) c.requires.short c.requires.room
