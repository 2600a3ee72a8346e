use Rattle.bv_rewrite.proofs.Ranking.{ranked_shape}
use Rattle.bv_rewrite.proofs.laws.shapes_have_the_sort_of_the_term.Goals as goal

pub returns : goal.returns
returns c = ranked_shape
