use Rattle.script_state.proofs.Marking.{PlainSoFar}
use Rattle.script_state.proofs.plain.extend.Given as goal

abbrev pub invariant-loop-term : goal.invariant-loop-term
invariant-loop-term l = PlainSoFar l.terms.nodes l.marks.items l.term
