use Rattle.std.proofs.Common.{sym, subst}
use Rattle.std.specs.Prelude.{Contains}
use Rattle.bit_blast.specs.Assigned.{assigned}
use Rattle.access_walk.specs.Congruent.{AreApplications}
use Rattle.access_walk.specs.Watched.{AreWatches}
use Rattle.access_walk.proofs.Conflicting.{all_of_both, no_clashes}
use Rattle.access_walk.proofs.walking.conflicts_of.Goals as goal

pub congruence_conflicts-requires : goal.congruence_conflicts-requires
congruence_conflicts-requires c = subst (AreApplications c.args.terms.now.nodes c.args.bits.now (Contains c.args.reached.now)) (sym c.as_slice.ensures.value) c.requires.applications

pub witness_conflicts-requires : goal.witness_conflicts-requires
witness_conflicts-requires c = subst (AreWatches c.args.terms.now.nodes c.args.bits.now (Contains c.args.reached.now)) (sym c.as_slice-watches.ensures.value) c.requires.watches

pub returns-clause-all : goal.returns-clause-all
returns-clause-all c = all_of_both c.args.terms.now.nodes c.args.bits.now (assigned c.args.assignment.now) (Contains c.args.reached.now) c.in_ok-conflicts.conflicts.items c.in_ok-more.more.items _ c.in_ok-append.ensures.items c.in_ok-conflicts.ensures.conflicts c.in_ok-more.ensures.conflicts

pub returns-clause-others : goal.returns-clause-others
returns-clause-others c = no_clashes c.args.terms.now.nodes c.args.bits.now (assigned c.args.assignment.now) (Contains c.args.reached.now) c.in_ok-conflicts.conflicts.items c.in_ok-more.more.items _ c.in_ok-append.ensures.items c.in_ok-conflicts.ensures.conflicts c.in_ok-more.ensures.conflicts
