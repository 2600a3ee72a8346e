use Rattle.std.proofs.Common.{◌≡◌, ◌++◌, take}
use Rattle.accepted_proof.specs.Answers.{parameter_text, listed}
use Rattle.accepted_proof.proofs.printing.push_parameters.Given as goal

abbrev pub invariant-loop-place : goal.invariant-loop-place
invariant-loop-place l = l.out ≡ l.fn.out ++ listed parameter_text (take l.place l.sorts)
