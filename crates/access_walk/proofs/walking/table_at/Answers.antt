use Rattle.access_walk.proofs.Conflicting.{bits_here, closed_here}
use Rattle.access_walk.proofs.walking.table_at.Goals as goal

pub spares_of-requires-clause-bits : goal.spares_of-requires-clause-bits
spares_of-requires-clause-bits c = bits_here c.args.terms.now.nodes c.args.bits.now c.args.live.now c.args.reached.now c.requires.walkable c.requires.reach

pub spares_of-requires-clause-closed : goal.spares_of-requires-clause-closed
spares_of-requires-clause-closed c = closed_here c.args.terms.now.nodes c.args.bits.now c.args.live.now c.args.reached.now c.requires.walkable c.requires.reach
