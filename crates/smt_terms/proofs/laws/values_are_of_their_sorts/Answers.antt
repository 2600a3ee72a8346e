use Rattle.smt_terms.proofs.Typing.{typed}
use Rattle.smt_terms.proofs.laws.values_are_of_their_sorts.Goals as goal

pub returns : goal.returns
returns c M nodes t terms lt = typed M nodes terms t lt
