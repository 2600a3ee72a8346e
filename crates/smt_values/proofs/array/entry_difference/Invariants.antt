use Rattle.std.proofs.Common.{◌≡◌, ℕ, ◌<◌, get_or}
use Rattle.smt_values.specs.Arrays.{Entry, element_at}
use Rattle.smt_values.proofs.array.entry_difference.Given as goal

abbrev pub invariant-loop-entry : goal.invariant-loop-entry
invariant-loop-entry l = (k : ℕ) (d : Entry) → k < l.entry-index → element_at l.b (get_or l.entry-items k d).0.value ≡ (get_or l.entry-items k d).1.value
