use Rattle.std.proofs.Common.{◌≡◌, ℕ, ◌<◌, length, Some, slice_get}
use Rattle.access_spread.specs.declared.spreading.Refusal.{Refusal}
use Rattle.access_spread.specs.Spreads.{index_in}
use Rattle.access_spread.proofs.spreading.refuse.Given as goal

abbrev pub invariant-loop-refusal : goal.invariant-loop-refusal
invariant-loop-refusal l = record {
  started : (k : ℕ) (c : Refusal) → slice_get l.refusal-items k ≡ Some c → c.row.start < length l.starts;
  apart : (k : ℕ) (c : Refusal) → k < l.refusal-index → slice_get l.refusal-items k ≡ Some c → c.row.array ≡ l.row.array → index_in l.starts c.row ≡ index_in l.starts l.row → ⊥;
  items : l.refusal-items ≡ l.fn.state.refused.items;
}
