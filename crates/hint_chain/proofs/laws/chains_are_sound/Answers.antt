use Rattle.hint_chain.proofs.Sound.{IsChain-follows}
use Rattle.hint_chain.proofs.laws.chains_are_sound.Goals as goal

pub returns : goal.returns
returns c = IsChain-follows
