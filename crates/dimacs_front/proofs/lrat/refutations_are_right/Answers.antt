use Rattle.dimacs_front.proofs.Sound.{refutation_is_right}
use Rattle.dimacs_front.proofs.lrat.refutations_are_right.Goals as goal

pub returns : goal.returns
returns c = refutation_is_right
