use Rattle.std.proofs.Common.{arith}
use Rattle.bit_blast.proofs.Counting.{short_of}
use Rattle.proof_log.proofs.pushing.equality.Goals as goal

pub equal-requires-clause-room : goal.equal-requires-clause-room
equal-requires-clause-room c =
    let short = short_of c.args.bits.now c.args.lower c.in-Some-Some.a.now c.requires.short c.in-Some-Some.ensures in
    let room = c.requires.room in
    omega (arith, short, room)
