use Rattle.std.proofs.Common.{◌≡◌, ◌+◌}
use Rattle.std.specs.List.{All}
use Rattle.shared_history.specs.Known.{IsPassOf}
use Rattle.history_bench.proofs.reader.passes.Given as goal

abbrev pub invariant-loop : goal.invariant-loop
invariant-loop l = IsPassOf l.hist l.first × (l.first.number ≡ 0) × (l.first.made ≡ l.initial.first.made + l.counter) × All (λ p. IsPassOf l.hist p) l.passes.items
