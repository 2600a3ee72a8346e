use Rattle.std.proofs.Common.{sym, ◌∙◌}
use Rattle.smt_desk.proofs.Counting.{none_fails, listed_fails, without_refusals}
use Rattle.smt_desk.proofs.memory.MemSourceSource.read.Goals as goal

pub returns-then-failing-clause-cause : goal.returns-then-failing-clause-cause
returns-then-failing-clause-cause c =
    rw (← c.self.view_is)
    (without_refusals _ _ _ (listed_fails c.self.inside.failing.now _ _ c.self.invariant.1 c.saturating_add-self-inside.ensures 0 _ (sym c.fails-failing.ensures ∙ c.if-failing.true)))

pub returns-clause-cause : goal.returns-clause-cause
returns-clause-cause c =
    rw (← c.self.view_is)
    (without_refusals _ _ _ (none_fails c.self.inside.failing.now _ _ c.self.invariant.1 c.saturating_add-self-inside.ensures 0 _))
