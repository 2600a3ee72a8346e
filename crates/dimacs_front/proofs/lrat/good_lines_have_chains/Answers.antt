use Rattle.dimacs_front.proofs.Chains.{good_is_begun}
use Rattle.dimacs_front.proofs.lrat.good_lines_have_chains.Goals as goal

pub returns : goal.returns
returns c = good_is_begun
