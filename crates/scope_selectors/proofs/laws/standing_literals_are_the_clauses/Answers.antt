use Rattle.scope_selectors.proofs.Standing.{contains_standing, standing_contained}
use Rattle.scope_selectors.proofs.laws.standing_literals_are_the_clauses.Goals as goal

pub returns : goal.returns
returns c = λ clause l. (contains_standing clause l, standing_contained clause l)
