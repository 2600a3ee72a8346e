use Rattle.bv_rewrite.specs.Simplifying.{IsOnWay}
use Rattle.bv_rewrite.specs.Weights.{weight}
use Rattle.bv_rewrite.proofs.simplifying.follow.Given as goal

abbrev pub invariant-rules : goal.invariant-rules
invariant-rules g l = IsOnWay l.fn.terms l.terms l.fn.t l.fn.uses.items l.uses.items l.at

abbrev pub decreases-rules : goal.decreases-rules
decreases-rules g l = weight l.terms.nodes l.at
