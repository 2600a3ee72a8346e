use Rattle.std.proofs.Common.{length, arith}
use Rattle.circ_muldiv.proofs.Counting.{mul_small, divide_small}
use Rattle.circ_muldiv.proofs.tests.encoded.Goals as goal

pub mul-requires-clause-room : goal.mul-requires-clause-room
mul-requires-clause-room c = omega (arith, mul_small (length c.args.a.now) (omega arith))

pub divide-requires-clause-room : goal.divide-requires-clause-room
divide-requires-clause-room c = omega (arith, divide_small (length c.args.a.now) (omega arith))

pub divide-requires-in-Remainder-clause-room : goal.divide-requires-in-Remainder-clause-room
divide-requires-in-Remainder-clause-room c = omega (arith, divide_small (length c.args.a.now) (omega arith))

pub sdiv-requires-clause-room : goal.sdiv-requires-clause-room
sdiv-requires-clause-room c = omega (arith, divide_small (length c.args.a.now) (omega arith))

pub srem-requires-clause-room : goal.srem-requires-clause-room
srem-requires-clause-room c = omega (arith, divide_small (length c.args.a.now) (omega arith))

pub smod-requires-clause-room : goal.smod-requires-clause-room
smod-requires-clause-room c = omega (arith, divide_small (length c.args.a.now) (omega arith))
