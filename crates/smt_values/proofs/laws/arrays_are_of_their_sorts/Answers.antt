use Rattle.smt_values.proofs.Changing.{array_sort}
use Rattle.smt_values.proofs.laws.arrays_are_of_their_sorts.Goals as goal

pub returns : goal.returns
returns c = array_sort
