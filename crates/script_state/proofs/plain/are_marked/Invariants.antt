use Rattle.script_state.proofs.Marking.{MarkedSoFar}
use Rattle.script_state.proofs.plain.are_marked.Given as goal

abbrev pub invariant-loop-arg : goal.invariant-loop-arg
invariant-loop-arg l = MarkedSoFar l.marks l.args l.arg-index
