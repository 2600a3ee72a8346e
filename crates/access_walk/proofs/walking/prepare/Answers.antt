use Rattle.std.proofs.Common.{sym, subst}
use Rattle.std.specs.Prelude.{Contains}
use Rattle.access_walk.proofs.Conflicting.{bits_here, closed_here, watches_here, words_here}
use Rattle.access_walk.proofs.walking.prepare.Goals as goal

pub indexes_of-requires : goal.indexes_of-requires
indexes_of-requires c = bits_here c.args.terms.now.nodes c.args.bits.now c.args.live.now c.args.reached.now c.requires.walkable c.requires.reach

pub network_of-requires-clause-bits : goal.network_of-requires-clause-bits
network_of-requires-clause-bits c = bits_here c.args.terms.now.nodes c.args.bits.now c.args.live.now c.args.reached.now c.requires.walkable c.requires.reach

pub network_of-requires-clause-closed : goal.network_of-requires-clause-closed
network_of-requires-clause-closed c = closed_here c.args.terms.now.nodes c.args.bits.now c.args.live.now c.args.reached.now c.requires.walkable c.requires.reach

pub network_of-requires-clause-widths : goal.network_of-requires-clause-widths
network_of-requires-clause-widths c = λ t x n m own shape array. subst (λ ws. Contains ws n) (sym c.as_slice.ensures.value) (c.in_ok-indexes.ensures.1.all t n own.0 (x, m, own.1, shape, array))

pub network_of-requires-clause-words : goal.network_of-requires-clause-words
network_of-requires-clause-words c = words_here c.args.terms.now.nodes c.args.bits.now c.args.live.now c.args.reached.now c.requires.walkable c.requires.reach

pub applications_of-requires-clause-bits : goal.applications_of-requires-clause-bits
applications_of-requires-clause-bits c = bits_here c.args.terms.now.nodes c.args.bits.now c.args.live.now c.args.reached.now c.requires.walkable c.requires.reach

pub applications_of-requires-clause-closed : goal.applications_of-requires-clause-closed
applications_of-requires-clause-closed c = closed_here c.args.terms.now.nodes c.args.bits.now c.args.live.now c.args.reached.now c.requires.walkable c.requires.reach

pub watches_of-requires-clause-bits : goal.watches_of-requires-clause-bits
watches_of-requires-clause-bits c = bits_here c.args.terms.now.nodes c.args.bits.now c.args.live.now c.args.reached.now c.requires.walkable c.requires.reach

pub watches_of-requires-clause-closed : goal.watches_of-requires-clause-closed
watches_of-requires-clause-closed c = closed_here c.args.terms.now.nodes c.args.bits.now c.args.live.now c.args.reached.now c.requires.walkable c.requires.reach

pub watches_of-requires-clause-watches : goal.watches_of-requires-clause-watches
watches_of-requires-clause-watches c = watches_here c.args.terms.now.nodes c.args.bits.now c.args.live.now c.args.reached.now c.requires.walkable c.requires.reach

pub returns : goal.returns
returns c = record {
  network = record {
    sound = c.in_ok-network.ensures.sound;
    maps = c.in_ok-network.ensures.map;
    guards = c.in_ok-network.ensures.guards;
    accesses = c.in_ok-network.ensures.accesses;
  };
  applications = c.in_ok-applications.ensures;
  watches = c.in_ok-watches.ensures;
  indexes = c.in_ok-indexes.ensures;
}
