use Rattle.std.specs.List.{All}
use Rattle.shared_history.specs.Known.{IsPassOf}
use Rattle.history_bench.proofs.reader.readers.Given as goal

abbrev pub invariant-loop : goal.invariant-loop
invariant-loop l = All (λ p. IsPassOf l.hist p) l.passes.items
