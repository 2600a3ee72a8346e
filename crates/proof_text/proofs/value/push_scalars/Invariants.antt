use Rattle.std.proofs.Common.{◌≡◌, ◌++◌, take, map}
use Rattle.proof_text.specs.Lines.{spaced, scalar_text}
use Rattle.proof_text.specs.Records.{written_scalar}
use Rattle.proof_text.proofs.value.push_scalars.Given as goal

abbrev pub invariant-loop-scalar : goal.invariant-loop-scalar
invariant-loop-scalar l = l.out ≡ l.fn.out ++ spaced (map scalar_text (map written_scalar (take l.scalar-index l.scalars)))
