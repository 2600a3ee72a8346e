use Rattle.hint_chain.proofs.Exact.{IsChain-no_fault}
use Rattle.hint_chain.proofs.laws.chains_have_no_fault.Goals as goal

pub returns : goal.returns
returns c = IsChain-no_fault
