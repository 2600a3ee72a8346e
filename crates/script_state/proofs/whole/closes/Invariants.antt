use Rattle.script_state.proofs.Lists.{Seen}
use Rattle.script_state.proofs.whole.closes.Given as goal

abbrev pub invariant-loop-token : goal.invariant-loop-token
invariant-loop-token l = Seen l.tokens l.token-index l.depth
