use Rattle.std.proofs.Common.{◌≡◌, ◌≤◌, length, sym, subst, arith}
use Rattle.std.specs.Prelude.{Contains, Some, slice_get, slice_index_or}
use Rattle.bit_blast.specs.Assigned.{assigned}
use Rattle.access_walk.specs.declared.witnesses.Watched.{Watched}
use Rattle.access_walk.specs.Watched.{AreWitnessConflicts}
use Rattle.access_walk.proofs.Lists.{some_at, place_of}
use Rattle.access_walk.proofs.Joined.{AreConflictsTo, conflicts_none, conflicts_step, conflicts_all, none_where_apart}
use Rattle.access_walk.proofs.witnesses.witness_conflicts.Goals as goal

pub loop-watched-init : goal.loop-watched-init
loop-watched-init c = subst (AreConflictsTo c.args.terms.now.nodes c.args.bits.now (assigned c.args.assignment.now) (Contains c.args.reached.now) c.args.watches.now 0) (sym c.new-conflicts.ensures.items)
    (conflicts_none c.args.terms.now.nodes c.args.bits.now (assigned c.args.assignment.now) (Contains c.args.reached.now) c.args.watches.now)

pub loop-watched-preserved : goal.loop-watched-preserved
loop-watched-preserved c =
    let w : Watched = slice_index_or c.args.watches.now c.loop-watched.watched-index (record { equality = 0; watch = record { witness = 0; left = 0; right = 0 } }) in
    let at : slice_get c.args.watches.now c.loop-watched.watched-index ≡ Some w = some_at c.args.watches.now c.loop-watched.watched-index _ c.loop-watched-test.true in
    conflicts_step c.args.terms.now.nodes c.args.bits.now (assigned c.args.assignment.now) (Contains c.args.reached.now) c.args.watches.now c.loop-watched.watched-index w c.loop-watched.conflicts.items _ _
    c.loop-watched.invariant at (c.requires.each w (place_of c.args.watches.now c.loop-watched.watched-index w at)) c.conflict_of-found.ensures c.in_ok-put.ensures

pub returns : goal.returns
returns c =
    let over = c.loop-watched-test.false in
    let past : length c.args.watches.now ≤ c.loop-watched.watched-index = omega (arith, over) in
    let whole : AreWitnessConflicts c.args.terms.now.nodes c.args.bits.now (assigned c.args.assignment.now) (Contains c.args.reached.now) c.loop-watched.conflicts.items =
    conflicts_all c.args.terms.now.nodes c.args.bits.now (assigned c.args.assignment.now) (Contains c.args.reached.now) c.args.watches.now c.requires c.loop-watched.watched-index c.loop-watched.conflicts.items c.loop-watched.invariant past in
    record {
      conflicts = whole;
      none = none_where_apart c.args.terms.now.nodes c.args.bits.now (assigned c.args.assignment.now) (Contains c.args.reached.now) c.loop-watched.conflicts.items whole;
    }
