use Rattle.smt_eval.proofs.Stores.{stored_is}
use Rattle.smt_eval.proofs.arrays.stored.Goals as goal

pub returns-clause-meaning : goal.returns-clause-meaning
returns-clause-meaning c = stored_is c.args.array.now c.set.new.self c.in_ok-changed.changed c.args.index c.args.element c.in_ok-changed.ensures.equal c.in_ok-set.ensures.ok
