use Rattle.std.proofs.Common.{subst}
use Rattle.theory_cubes.specs.Searched.{IsEndOf}
use Rattle.theory_cubes.proofs.tried.Tried.add.Goals as goal

pub returns-in_ok-close-in-Closed : goal.returns-in_ok-close-in-Closed
returns-in_ok-close-in-Closed c = λ p log cube tried end. c.in_ok-close-in-Closed.ensures p log cube tried (subst (IsEndOf p log cube) c.in-Closed.is end)

pub returns-in-Spent : goal.returns-in-Spent
returns-in-Spent c = λ p log cube tried end. c.spend.ensures p log cube tried (subst (IsEndOf p log cube) c.in-Spent.is end)
