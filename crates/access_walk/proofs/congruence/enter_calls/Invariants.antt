use Rattle.bit_blast.specs.Assigned.{assigned}
use Rattle.access_tables.specs.Held.{assigned_value}
use Rattle.access_walk.proofs.Calling.{AreCallsTo}
use Rattle.access_walk.proofs.congruence.enter_calls.Given as goal

abbrev pub invariant-loop-application : goal.invariant-loop-application
invariant-loop-application l = AreCallsTo l.terms.nodes (assigned_value l.terms.nodes l.bits (assigned l.assignment)) l.applications l.application-index l.keys.items l.calls.items
