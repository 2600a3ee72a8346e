use Rattle.std.specs.Prelude.{◌≤◌, length}
use Rattle.std.proofs.Common.{◌≡◌}
use Rattle.history_client.proofs.worker.Worker.wait_and_read.Given as goal

-- so far nothing came that the pass had not got, and it has seen what it has got
abbrev pub invariant-loop : goal.invariant-loop
invariant-loop g l = (l.self.hist.now ≡ l.initial.self.hist.now) × (l.self.pass.number ≡ l.initial.self.pass.number) × (l.self.pass.mine ≡ l.initial.self.pass.mine) × (l.self.task ≡ l.initial.self.task) × (l.self.done ≡ l.initial.self.done) × (l.self.pass.got ≡ l.initial.self.pass.got) × (l.self.pass.got ≤ length l.self.pass.seen)
