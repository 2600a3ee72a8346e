use Rattle.smt_syntax.proofs.Depths.{Counted}
use Rattle.smt_syntax.proofs.depth.most_open.Given as goal

abbrev pub invariant-loop-token : goal.invariant-loop-token
invariant-loop-token l = Counted l.tokens l.token-index l.depth l.most
