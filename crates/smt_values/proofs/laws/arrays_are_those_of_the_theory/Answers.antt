use Rattle.std.proofs.Common.{refl}
use Rattle.smt_values.proofs.Changing.{element_stored}
use Rattle.smt_values.proofs.laws.arrays_are_those_of_the_theory.Goals as goal

pub returns-clause-store : goal.returns-clause-store
returns-clause-store c = element_stored

pub returns-clause-equal : goal.returns-clause-equal
returns-clause-equal c a b = refl
