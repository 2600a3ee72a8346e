use Rattle.std.proofs.Common.{◌≡◌, ◌+◌, [], vec_len}
use Rattle.shared_history.specs.Known.{IsPassOf}
use Rattle.history_client.specs.Work.{IsReady, Each}
use Rattle.history_client.proofs.threads.hire.Given as goal

abbrev pub invariant-loop-task : goal.invariant-loop-task
invariant-loop-task l = IsPassOf l.hist l.first × (l.first.number ≡ 0) × (l.first.mine ≡ []) × (l.first.made ≡ 1 + l.task-index) × (vec_len l.workers ≡ l.task-index) × Each (IsReady l.hist) l.tasks l.workers.items
