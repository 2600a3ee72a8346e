use Rattle.std.proofs.Common.{◌≡◌}
use Rattle.proof_conversion.specs.Filing.{no_lists}
use Rattle.proof_conversion.proofs.deleting.no_lists.Given as goal

abbrev pub invariant-loop-k : goal.invariant-loop-k
invariant-loop-k l = l.lists.items ≡ no_lists l.k
