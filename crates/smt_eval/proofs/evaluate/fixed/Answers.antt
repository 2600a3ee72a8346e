use Rattle.smt_eval.proofs.Taking.{clash}
use Rattle.smt_eval.proofs.Evaluating.{given_scalar}
use Rattle.smt_eval.proofs.evaluate.fixed.Goals as goal

pub returns-in-Some : goal.returns-in-Some
returns-in-Some c M = given_scalar M c.args.op.now c.args.scalars.now c.in-Some.scalar _ c.from.ensures (c.in-Some.ensures M)

pub returns-in-None : goal.returns-in-None
returns-in-None c M = absurd (clash _ c.requires.rank c.in-None.ensures)
