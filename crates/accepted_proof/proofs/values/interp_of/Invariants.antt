use Rattle.std.proofs.Common.{◌≡◌, ℕ, ◌-◌, length, drop}
use Rattle.smt_values.specs.Held.{set_for}
use Rattle.accepted_proof.specs.Models.{value_for}
use Rattle.accepted_proof.proofs.values.interp_of.Given as goal

abbrev pub invariant-loop-done : goal.invariant-loop-done
invariant-loop-done l = (d : ℕ) → set_for l.interp d ≡ value_for (drop (length l.values - l.done) l.values) d
