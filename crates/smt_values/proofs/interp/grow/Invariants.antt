use Rattle.std.proofs.Common.{◌≡◌, ℕ, ◌-◌, vec_len}
use Rattle.smt_values.specs.Held.{set_for}
use Rattle.smt_values.proofs.interp.grow.Given as goal

abbrev pub invariant-loop-values : goal.invariant-loop-values
invariant-loop-values l = (d : ℕ) → set_for l.values.items d ≡ set_for l.initial.values.items d

abbrev pub decreases-loop-values : goal.decreases-loop-values
decreases-loop-values l = l.wanted - vec_len l.values
