use Rattle.std.proofs.Common.{ℕ, ◌-◌, length, drop}
use Rattle.smt_values.specs.Held.{set_for}
use Rattle.accepted_proof.specs.Models.{value_for}
use Rattle.proof_checker.specs.Blanks.{MeansSame}
use Rattle.proof_checker.proofs.kept.KeptInterp.filled.Given as goal

abbrev pub invariant-loop-done : goal.invariant-loop-done
invariant-loop-done l = (d : ℕ) → MeansSame (set_for l.interp d) (value_for (drop (length l.values - l.done) l.values) d)
