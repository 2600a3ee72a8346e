use Rattle.std.proofs.Common.{◌≡◌, ◌<◌, vec_len}
use Rattle.std.specs.List.{All}
use Rattle.history_bench.proofs.steps.Given as goal

abbrev pub invariant-loop : goal.invariant-loop
invariant-loop g l = (vec_len l.tasks ≡ l.counter) × All (λ t. t.topic < 1) l.tasks.items
