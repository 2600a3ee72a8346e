-- Workers before and after their work.
use Rattle.std.specs.Prelude.{◌≡◌, ℕ, ◌+◌, ◌<◌, List, [], ◌∷◌, ◌++◌, length, slice_index_or}
use Rattle.std.specs.Bool.{OnTrue}
use Rattle.shared_history.specs.Known.{Story}
use Rattle.history_client.specs.declared.law.Pool.{Pool}
use Rattle.history_client.specs.declared.worker.Task.{Task}
use Rattle.history_client.specs.declared.worker.Worker.{Worker}
use Rattle.history_client.specs.Pools.{notes}

abbrev pub IsReady : Story Pool → ℕ → Task → Worker → Type 0
IsReady hist n t w = (w.hist.now ≡ hist) × (w.pass.number ≡ n) × (w.task ≡ t) × (w.pass.mine ≡ [])

abbrev pub HasWorked : Story Pool → ℕ → Task → Worker → Type 0
HasWorked hist n t w = (w.hist.now ≡ hist) × (w.pass.number ≡ n) × OnTrue w.done (w.pass.mine ≡ notes n t.topic t.times)

-- what its work leaves of a worker
abbrev pub WorkedFrom : Worker → Worker → Type 0
WorkedFrom v w = (w.hist.now ≡ v.hist.now) × (w.pass.number ≡ v.pass.number) × (w.task ≡ v.task) × OnTrue w.done (w.pass.mine ≡ v.pass.mine ++ notes v.pass.number v.task.topic v.task.times)

-- the worker of each of the first tasks: its pass is numbered from 1 on
abbrev pub Each : (ℕ → Task → Worker → Type 0) → List Task → List Worker → Type 0
Each P tasks workers = (k : ℕ) (t : Task) (w : Worker) → k < length workers → P (k + 1) (slice_index_or tasks k t) (slice_index_or workers k w)

-- x is one of them
abbrev pub IsOneOf : {X : Type 0} → List X → X → Type 0
IsOneOf {X} xs x = (before : List X) × (after : List X) × (xs ≡ before ++ x ∷ after)
