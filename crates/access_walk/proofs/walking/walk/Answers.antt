use Rattle.access_walk.proofs.Conflicting.{bits_here, words_here}
use Rattle.access_walk.proofs.walking.walk.Goals as goal

pub find_clashes-requires-clause-bits : goal.find_clashes-requires-clause-bits
find_clashes-requires-clause-bits c = bits_here c.args.terms.now.nodes c.args.bits.now c.args.live.now c.args.reached.now c.requires.walkable c.requires.reach

pub find_clashes-requires-clause-words : goal.find_clashes-requires-clause-words
find_clashes-requires-clause-words c = words_here c.args.terms.now.nodes c.args.bits.now c.args.live.now c.args.reached.now c.requires.walkable c.requires.reach
