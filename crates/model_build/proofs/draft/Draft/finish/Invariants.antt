use Rattle.std.proofs.Common.{◌≡◌, ℕ, ◌<◌, ◌≤◌, ◌^◌, length, None, vec_len}
use Rattle.smt_values.specs.Held.{set_for}
use Rattle.model_build.proofs.draft.Draft.finish.Given as goal

abbrev pub invariant-loop-last : goal.invariant-loop-last
invariant-loop-last l = record {
  few : length l.values.items ≤ 2 ^ 32;
  left : (d : ℕ) → d < length l.values.items → set_for l.values.items d ≡ set_for l.fn.self d;
  none : (d : ℕ) → d < length l.values.items → set_for l.interp d ≡ None;
  done : (d : ℕ) → length l.values.items ≤ d → set_for l.interp d ≡ set_for l.fn.self d;
}

abbrev pub decreases-loop-last : goal.decreases-loop-last
decreases-loop-last l = vec_len l.values
