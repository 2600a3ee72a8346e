use Rattle.smt_eval.proofs.arrays.of_three.Goals as goal

pub returns-in-Ite : goal.returns-in-Ite
returns-in-Ite c = rw c.in-Ite.is c.choice.ensures

pub returns-in-Store : goal.returns-in-Store
returns-in-Store c = rw c.in-Store.is c.storing.ensures
