use Rattle.std.proofs.Common.{subst}
use Rattle.cube_workers.specs.Searched.{IsEndOf}
use Rattle.cube_workers.proofs.tried.Tried.add.Goals as goal

pub returns-in_ok-close-in-Closed : goal.returns-in_ok-close-in-Closed
returns-in_ok-close-in-Closed c = λ p log v cube tried end. c.in_ok-close-in-Closed.ensures p log v cube tried (subst (IsEndOf p log v cube) c.in-Closed.is end)

pub returns-in-Spent : goal.returns-in-Spent
returns-in-Spent c = λ p log v cube tried end. c.spend.ensures p log v cube tried (subst (IsEndOf p log v cube) c.in-Spent.is end)
