use Rattle.diary_checker.proofs.Each.{each_none}
use Rattle.diary_checker.proofs.literals.ClauseLiterals.clear.Goals as goal

pub returns : goal.returns
returns c = each_none _ _ c.clear.ensures c.clear-2.ensures.items
