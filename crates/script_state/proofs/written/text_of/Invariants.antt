use Rattle.script_state.proofs.Writing.{WrittenSoFar}
use Rattle.script_state.proofs.written.text_of.Given as goal

abbrev pub invariant-loop-token : goal.invariant-loop-token
invariant-loop-token l = WrittenSoFar l.tokens l.token-index l.before l.out
