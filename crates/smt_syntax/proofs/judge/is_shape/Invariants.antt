use Rattle.smt_syntax.proofs.Judgings.{Judged}
use Rattle.smt_syntax.proofs.judge.is_shape.Given as goal

abbrev pub invariant-loop-token : goal.invariant-loop-token
invariant-loop-token l = Judged l.want l.tokens l.token-index l.stack.items
