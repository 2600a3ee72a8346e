use Rattle.smt_syntax.proofs.Cuts.{Cutting}
use Rattle.smt_syntax.proofs.parts.cut.Given as goal

abbrev pub invariant-loop-i : goal.invariant-loop-i
invariant-loop-i l = Cutting l.tokens l.first l.i l.begun l.depth l.out.items
