use Rattle.std.proofs.Common.{vec_len}
use Rattle.std.specs.List.{All}
use Rattle.shared_history.specs.Known.{IsPassOf}
use Rattle.history_bench.proofs.reader.read_by_each.Given as goal

abbrev pub decreases-loop-pass : goal.decreases-loop-pass
decreases-loop-pass g l = vec_len l.passes

abbrev pub invariant-loop-pass : goal.invariant-loop-pass
invariant-loop-pass g l = All (λ p. IsPassOf l.hist p) l.passes.items
