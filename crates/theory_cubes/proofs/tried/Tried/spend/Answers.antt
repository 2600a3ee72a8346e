use Rattle.std.proofs.Common.{inr}
use Rattle.cnf_base.proofs.Options.{none_from}
use Rattle.theory_cubes.proofs.Cubes.{spent_next, still_spent}
use Rattle.theory_cubes.proofs.tried.Tried.spend.Goals as goal

pub returns-then-is_none : goal.returns-then-is_none
returns-then-is_none c = λ p log cube tried end.
    spent_next p log cube c.args.self.now.closed.items c.args.self.now.spent c.args.diary (none_from c.args.self.now.spent c.if-is_none.ensures) tried end.0 end.1

pub returns-else-is_none : goal.returns-else-is_none
returns-else-is_none c = λ p log cube tried end.
    still_spent p log cube c.args.self.now.closed.items c.args.self.now.spent c.if-is_none.ensures tried (inr (c.args.diary, end.0, end.1))
