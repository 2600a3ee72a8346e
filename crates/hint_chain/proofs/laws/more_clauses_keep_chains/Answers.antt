use Rattle.hint_chain.proofs.Growing.{IsChain-grows}
use Rattle.hint_chain.proofs.laws.more_clauses_keep_chains.Goals as goal

pub returns : goal.returns
returns c = IsChain-grows
