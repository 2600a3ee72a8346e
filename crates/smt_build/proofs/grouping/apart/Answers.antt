use Rattle.smt_build.proofs.Growth.{all_grow}
use Rattle.smt_build.proofs.grouping.apart.Goals as goal

pub returns-clause-grows : goal.returns-clause-grows
returns-clause-grows c = all_grow _ _ _ c.in_ok-equal.ensures.grows c.of_one.ensures.grows
