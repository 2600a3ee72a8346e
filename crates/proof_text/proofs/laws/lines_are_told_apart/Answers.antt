use Rattle.std.proofs.Common.{refl}
use Rattle.proof_text.proofs.Exact.{line_free, line_once}
use Rattle.proof_text.proofs.laws.lines_are_told_apart.Goals as goal

pub returns-clause-one_feed : goal.returns-clause-one_feed
returns-clause-one_feed c = λ l h. (line_free l h, refl)

pub returns-clause-once : goal.returns-clause-once
returns-clause-once c = line_once
