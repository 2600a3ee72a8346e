use Rattle.std.proofs.Common.{◌≡◌, sym, subst, refl, arith}
use Rattle.std.specs.Prelude.{Some, slice_get, slice_index_or}
use Rattle.bit_blast.specs.Assigned.{assigned}
use Rattle.access_tables.specs.Held.{assigned_value}
use Rattle.access_walk.specs.declared.congruence.Application.{Application}
use Rattle.access_walk.proofs.Lists.{some_at, place_of}
use Rattle.access_walk.proofs.Calling.{AreCallsTo, calls_none, calls_more, calls_all}
use Rattle.access_walk.proofs.congruence.enter_calls.Goals as goal

pub loop-application-init : goal.loop-application-init
loop-application-init c = subst (AreCallsTo c.args.terms.now.nodes (assigned_value c.args.terms.now.nodes c.args.bits.now (assigned c.args.assignment.now)) c.args.applications.now 0 _) (sym c.clear-2.ensures.items)
    (calls_none c.args.terms.now.nodes (assigned_value c.args.terms.now.nodes c.args.bits.now (assigned c.args.assignment.now)) c.args.applications.now _)

pub push_key-requires-clause-held : goal.push_key-requires-clause-held
push_key-requires-clause-held c =
    let a : Application = slice_index_or c.args.applications.now c.loop-application.application-index (record { term = 0; declaration = 0 }) in
    let at : slice_get c.args.applications.now c.loop-application.application-index ≡ Some a = some_at c.args.applications.now c.loop-application.application-index _ c.loop-application-test.true in
    (c.requires.each a (place_of c.args.applications.now c.loop-application.application-index a at)).held

pub push_key-requires-clause-args : goal.push_key-requires-clause-args
push_key-requires-clause-args c =
    let a : Application = slice_index_or c.args.applications.now c.loop-application.application-index (record { term = 0; declaration = 0 }) in
    let at : slice_get c.args.applications.now c.loop-application.application-index ≡ Some a = some_at c.args.applications.now c.loop-application.application-index _ c.loop-application-test.true in
    (c.requires.each a (place_of c.args.applications.now c.loop-application.application-index a at)).args

pub loop-application-preserved : goal.loop-application-preserved
loop-application-preserved c =
    let a : Application = slice_index_or c.args.applications.now c.loop-application.application-index (record { term = 0; declaration = 0 }) in
    let at : slice_get c.args.applications.now c.loop-application.application-index ≡ Some a = some_at c.args.applications.now c.loop-application.application-index _ c.loop-application-test.true in
    calls_more c.args.terms.now.nodes (assigned_value c.args.terms.now.nodes c.args.bits.now (assigned c.args.assignment.now)) c.args.applications.now c.loop-application.application-index
    a (record { term = a.term; from = c.len-from.result; to = c.len-to.result }) c.loop-application.keys.items _ c.loop-application.calls.items _
    c.loop-application.invariant at c.in_ok-push_key.ensures refl (omega arith) (omega arith) c.in_ok-push.ensures.items

pub returns : goal.returns
returns c =
    let over = c.loop-application-test.false in
    calls_all c.args.terms.now.nodes (assigned_value c.args.terms.now.nodes c.args.bits.now (assigned c.args.assignment.now)) c.args.applications.now c.loop-application.application-index c.loop-application.keys.items c.loop-application.calls.items c.loop-application.invariant (omega (arith, over))
