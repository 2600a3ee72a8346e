use Rattle.std.proofs.Common.{◌≡◌, ◌++◌, replicate}
use Rattle.accepted_proof.proofs.printing.push_closings.Given as goal

abbrev pub invariant-loop : goal.invariant-loop
invariant-loop l = l.out ≡ l.fn.out ++ replicate l.counter 41
