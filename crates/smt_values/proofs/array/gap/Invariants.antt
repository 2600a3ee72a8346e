use Rattle.std.proofs.Common.{◌≡◌, ℕ, ◌<◌, ◌≤◌, ◌-◌, true}
use Rattle.smt_values.specs.Differences.{either_holds}
use Rattle.smt_values.proofs.array.gap.Given as goal

abbrev pub invariant-loop-width : goal.invariant-loop-width
invariant-loop-width l = (l.number ≤ l.last) × ((i : ℕ) → i < l.number → either_holds l.a l.b i ≡ true)

abbrev pub decreases-loop-width : goal.decreases-loop-width
decreases-loop-width l = l.last - l.number
