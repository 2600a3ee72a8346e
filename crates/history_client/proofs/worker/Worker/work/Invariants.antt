use Rattle.std.proofs.Common.{◌≡◌, ◌++◌}
use Rattle.history_client.specs.Pools.{notes}
use Rattle.history_client.proofs.worker.Worker.work.Given as goal

abbrev pub invariant-loop : goal.invariant-loop
invariant-loop g l = (l.self.hist.now ≡ l.initial.self.hist.now) × (l.self.pass.number ≡ l.initial.self.pass.number) × (l.self.pass.made ≡ l.initial.self.pass.made) × (l.self.task ≡ l.initial.self.task) × (l.self.done ≡ l.initial.self.done) × (l.self.pass.mine ≡ l.initial.self.pass.mine ++ notes l.initial.self.pass.number l.initial.self.task.topic l.counter)
