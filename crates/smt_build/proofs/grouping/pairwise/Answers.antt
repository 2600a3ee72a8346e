use Rattle.smt_build.proofs.Growth.{all_grow}
use Rattle.smt_build.proofs.grouping.pairwise.Goals as goal

pub returns-clause-grows : goal.returns-clause-grows
returns-clause-grows c = all_grow _ _ _ c.in_ok-all_apart.ensures.grows c.all_true.ensures.grows
