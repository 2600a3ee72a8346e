use Rattle.std.proofs.Common.{◌≡◌, ℕ, ◌+◌, ◌<◌, ◌≤◌, length, IsTrue, slice_index_or, vec_len}
use Rattle.shared_history.specs.Known.{IsPassOf}
use Rattle.history_client.specs.declared.worker.Task.{Task}
use Rattle.history_client.specs.Pools.{notes}
use Rattle.history_client.specs.Work.{HasWorked, Each, IsOneOf}
use Rattle.history_client.proofs.threads.gather.Given as goal

abbrev pub decreases-loop-worker : goal.decreases-loop-worker
decreases-loop-worker l = vec_len l.workers

abbrev pub invariant-loop-worker : goal.invariant-loop-worker
invariant-loop-worker l = IsPassOf l.hist l.first × (l.first.number ≡ l.initial.first.number) × (l.first.made ≡ l.initial.first.made) × (l.first.mine ≡ l.initial.first.mine) × (vec_len l.workers ≤ length l.tasks) × Each (HasWorked l.hist) l.tasks l.workers.items
    × (IsTrue l.done → (k : ℕ) (d : Task) → vec_len l.workers ≤ k → k < length l.tasks → let t = slice_index_or l.tasks k d in IsOneOf l.first.ended (k + 1, notes (k + 1) t.topic t.times))
