use Rattle.std.proofs.Common.{◌≡◌, ℕ, ◌-◌, ◌≤◌, ◌^◌, length, vec_len}
use Rattle.smt_values.specs.Held.{set_for}
use Rattle.model_build.proofs.draft.grow.Given as goal

abbrev pub invariant-loop-values : goal.invariant-loop-values
invariant-loop-values l = record {
  same : (d : ℕ) → set_for l.values.items d ≡ set_for l.initial.values.items d;
  few : length l.values.items ≤ 2 ^ 32;
}

abbrev pub decreases-loop-values : goal.decreases-loop-values
decreases-loop-values l = l.wanted - vec_len l.values
