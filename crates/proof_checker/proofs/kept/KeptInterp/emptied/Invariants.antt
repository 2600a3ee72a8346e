use Rattle.std.proofs.Common.{ℕ, drop}
use Rattle.smt_values.specs.Held.{set_for}
use Rattle.accepted_proof.specs.Models.{value_for}
use Rattle.proof_checker.proofs.Blanks.{IsTaken}
use Rattle.proof_checker.proofs.kept.KeptInterp.emptied.Given as goal

abbrev pub invariant-loop-value : goal.invariant-loop-value
invariant-loop-value l = (d : ℕ) → IsTaken (set_for l.interp d) (value_for (drop l.value-index l.values) d)
