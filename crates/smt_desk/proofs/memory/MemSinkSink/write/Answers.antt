use Rattle.std.proofs.Common.{sym, ◌∙◌}
use Rattle.smt_desk.proofs.Counting.{none_fails, listed_fails, memory_fails}
use Rattle.smt_desk.proofs.memory.MemSinkSink.write.Goals as goal

pub returns-then-failing-clause-cause : goal.returns-then-failing-clause-cause
returns-then-failing-clause-cause c =
    rw (← c.self.view_is)
    (listed_fails c.self.inside.failing.now _ _ c.self.invariant.1 c.saturating_add-self-inside.ensures _ _ (sym c.fails-failing.ensures ∙ c.if-failing.true))

pub returns-in-Ok-clause-cause : goal.returns-in-Ok-clause-cause
returns-in-Ok-clause-cause c =
    rw (← c.self.view_is)
    (none_fails c.self.inside.failing.now _ _ c.self.invariant.1 c.saturating_add-self-inside.ensures _ _)

pub returns-in-Err-clause-cause : goal.returns-in-Err-clause-cause
returns-in-Err-clause-cause c =
    rw (← c.self.view_is)
    (memory_fails c.self.inside.failing.now _ _ c.self.invariant.1 c.saturating_add-self-inside.ensures _ _ _ c.self.invariant.2 c.saturating_add-self-inside-in-Err.ensures)
