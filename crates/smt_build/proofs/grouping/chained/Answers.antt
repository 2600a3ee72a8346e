use Rattle.smt_build.proofs.Growth.{all_grow}
use Rattle.smt_build.proofs.grouping.chained.Goals as goal

pub returns-clause-grows : goal.returns-clause-grows
returns-clause-grows c = all_grow _ _ _ c.in_ok-chain.ensures.grows c.all_true.ensures.grows
