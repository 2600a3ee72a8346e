use Rattle.std.proofs.Common.{◌≡◌, ◌≤◌, ℕ, [], length}
use Rattle.std.specs.Prelude.{slice_index_or}
use Rattle.diary_checker.proofs.watches.grow.Given as goal

abbrev pub invariant-loop-row : goal.invariant-loop-row
invariant-loop-row l = record {
  same : (k : ℕ) → slice_index_or l.lists.items k [] ≡ slice_index_or l.fn.lists.items k [];
  many : l._row ≤ length l.lists.items;
}
