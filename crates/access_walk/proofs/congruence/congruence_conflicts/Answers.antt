use Rattle.std.proofs.Common.{sym, subst}
use Rattle.std.specs.Prelude.{Contains}
use Rattle.bit_blast.specs.Assigned.{assigned}
use Rattle.access_tables.specs.Held.{assigned_value}
use Rattle.access_walk.specs.Called.{AreCalls}
use Rattle.access_walk.proofs.Applied.{none_where_congruent}
use Rattle.access_walk.proofs.Calling.{calls_moved}
use Rattle.access_walk.proofs.congruence.congruence_conflicts.Goals as goal

pub conflicts_in-requires-clause-calls : goal.conflicts_in-requires-clause-calls
conflicts_in-requires-clause-calls c =
    let moved = calls_moved c.args.terms.now.nodes (assigned_value c.args.terms.now.nodes c.args.bits.now (assigned c.args.assignment.now)) c.args.applications.now c.enter_calls.new.keys.items c.enter_calls.new.calls.items c.sort_calls.new.calls.items c.sort_calls.ensures.permutation c.in_ok-enter_calls.ensures in
    subst (λ ks. AreCalls c.args.terms.now.nodes (assigned_value c.args.terms.now.nodes c.args.bits.now (assigned c.args.assignment.now)) c.args.applications.now ks c.as_slice-calls.result.now) (sym c.as_slice-keys.ensures.value) (subst (AreCalls c.args.terms.now.nodes (assigned_value c.args.terms.now.nodes c.args.bits.now (assigned c.args.assignment.now)) c.args.applications.now c.enter_calls.new.keys.items) (sym c.as_slice-calls.ensures.value) moved)

pub returns-clause-none : goal.returns-clause-none
returns-clause-none c = none_where_congruent c.args.terms.now.nodes c.args.bits.now (assigned c.args.assignment.now) (Contains c.args.reached.now) c.in_ok-found.found.items c.in_ok-found.ensures
