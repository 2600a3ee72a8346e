use Rattle.std.proofs.Common.{arith}
use Rattle.proof_checker.proofs.Blanks.{taken_none, taken_more, taken_all}
use Rattle.proof_checker.proofs.kept.KeptInterp.emptied.Goals as goal

pub loop-value-init : goal.loop-value-init
loop-value-init c = λ d. taken_none _ _ (c.requires d)

pub loop-value-preserved : goal.loop-value-preserved
loop-value-preserved c = taken_more c.args.values.now c.loop-value.value-index c.value-item.result c.loop-value.interp c.set.new.self (omega arith) c.value-item.is c.loop-value.invariant c.in_ok-set.ensures.ok

pub invariant_of-result : goal.invariant_of-result
invariant_of-result c = taken_all c.args.values.now c.loop-value.value-index c.loop-value.interp (omega arith) c.loop-value.invariant
