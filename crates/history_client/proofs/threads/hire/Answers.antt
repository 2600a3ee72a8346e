use Rattle.std.proofs.Common.{rules}
use Rattle.std.proofs.lemmas.List.{get_or_default}
use Rattle.history_client.specs.Work.{IsReady}
use Rattle.history_client.proofs.Working.{each_pushed}
use Rattle.history_client.proofs.threads.hire.Goals as goal

pub loop-task-preserved : goal.loop-task-preserved
loop-task-preserved c = (
  search rules,
  search rules,
  search rules,
  search rules,
  search rules,
  each_pushed (IsReady c.args.hist.now) c.args.tasks.now c.loop-task.workers.items _ _ _ c.loop-task.task-index c.push_reserved.ensures.items c.reserve.ensures.items (search rules) (λ t. (search rules, search rules, get_or_default c.args.tasks.now c.loop-task.task-index _ t (search rules), search rules)) c.loop-task.invariant.5,
)
