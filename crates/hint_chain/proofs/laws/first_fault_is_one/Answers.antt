use Rattle.hint_chain.proofs.Exact.{FirstFault-one}
use Rattle.hint_chain.proofs.laws.first_fault_is_one.Goals as goal

pub returns : goal.returns
returns c = FirstFault-one
