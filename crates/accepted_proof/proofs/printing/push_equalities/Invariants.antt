use Rattle.std.proofs.Common.{◌≡◌, ◌++◌, take}
use Rattle.accepted_proof.specs.Answers.{equality_text, listed}
use Rattle.accepted_proof.proofs.printing.push_equalities.Given as goal

abbrev pub invariant-loop-place : goal.invariant-loop-place
invariant-loop-place l = l.out ≡ l.fn.out ++ listed equality_text (take l.place l.values)
