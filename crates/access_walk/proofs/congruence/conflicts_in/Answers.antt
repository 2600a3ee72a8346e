use Rattle.std.proofs.Common.{◌≡◌, ◌<◌, ◌≤◌, ◌+◌, ◌-◌, length, sym, subst, arith}
use Rattle.std.specs.Prelude.{Contains}
use Rattle.bit_blast.specs.Assigned.{assigned}
use Rattle.access_walk.proofs.Calling.{AreConflictsTo, call_scalar, conflicts_none, conflicts_step, conflicts_all}
use Rattle.access_walk.proofs.congruence.conflicts_in.Goals as goal

pub loop-place-init : goal.loop-place-init
loop-place-init c = subst (AreConflictsTo c.args.terms.now.nodes c.args.bits.now (assigned c.args.assignment.now) (Contains c.args.reached.now) c.args.keys.now c.args.calls.now 1) (sym c.new-conflicts.ensures.items)
    (conflicts_none c.args.terms.now.nodes c.args.bits.now (assigned c.args.assignment.now) c.len-count.ensures.terms.list c.len-count.ensures.terms.declared (Contains c.args.reached.now) c.args.applications.now c.requires.applications c.args.keys.now c.args.calls.now c.requires.calls 1 (omega arith))

pub conflict_of-found-requires-clause-left : goal.conflict_of-found-requires-clause-left
conflict_of-found-requires-clause-left c =
    let lt : c.loop-place.place - 1 < length c.args.calls.now = omega arith in
    call_scalar c.args.terms.now.nodes c.args.bits.now (assigned c.args.assignment.now) c.len-count.ensures.terms.list c.len-count.ensures.terms.declared (Contains c.args.reached.now) c.args.applications.now c.requires.applications c.args.keys.now c.args.calls.now c.requires.calls (c.loop-place.place - 1) lt

pub conflict_of-found-requires-clause-right : goal.conflict_of-found-requires-clause-right
conflict_of-found-requires-clause-right c =
    let lt : c.loop-place.place < length c.args.calls.now = omega arith in
    call_scalar c.args.terms.now.nodes c.args.bits.now (assigned c.args.assignment.now) c.len-count.ensures.terms.list c.len-count.ensures.terms.declared (Contains c.args.reached.now) c.args.applications.now c.requires.applications c.args.keys.now c.args.calls.now c.requires.calls c.loop-place.place lt

pub loop-place-preserved : goal.loop-place-preserved
loop-place-preserved c =
    let lt : c.loop-place.place < length c.args.calls.now = omega arith in
    let next : c.loop-place.place ≡ c.loop-place.place - 1 + 1 = omega arith in
    conflicts_step c.args.terms.now.nodes c.args.bits.now (assigned c.args.assignment.now) c.len-count.ensures.terms.list c.len-count.ensures.terms.declared (Contains c.args.reached.now) c.args.applications.now c.requires.applications c.args.keys.now c.args.calls.now c.requires.calls
    c.loop-place.place (c.loop-place.place - 1) c.loop-place.conflicts.items _ _ next lt c.loop-place.invariant c.conflict_of-found.ensures c.in_ok-put.ensures

pub returns : goal.returns
returns c =
    let past : length c.args.calls.now ≤ c.loop-place.place = omega arith in
    conflicts_all c.args.terms.now.nodes c.args.bits.now (assigned c.args.assignment.now) c.len-count.ensures.terms.list c.len-count.ensures.terms.declared (Contains c.args.reached.now) c.args.applications.now c.requires.applications c.args.keys.now c.args.calls.now c.requires.calls
    c.requires.sorted c.loop-place.place c.loop-place.conflicts.items c.loop-place.invariant past
