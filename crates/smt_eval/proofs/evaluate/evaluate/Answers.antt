use Rattle.smt_values.specs.Held.{interpretation_of}
use Rattle.smt_eval.proofs.Calling.{ok_at}
use Rattle.smt_eval.proofs.evaluate.evaluate.Goals as goal

pub returns-in-Plain : goal.returns-in-Plain
returns-in-Plain c = rw c.in-Plain.is (ok_at c.theory.result _ _ (λ v h. h (interpretation_of c.args.interp.now)) c.theory.ensures)

pub returns-in-ConstantArray : goal.returns-in-ConstantArray
returns-in-ConstantArray c = rw c.in-ConstantArray.is (c.everywhere.ensures (interpretation_of c.args.interp.now))
