use Rattle.std.proofs.Common.{◌≡◌, ℕ, ◌≤◌, length}
use Rattle.proof_file.specs.Indexed.{noted_under}
use Rattle.proof_file.proofs.noting.grow.Given as goal

abbrev pub invariant-rows : goal.invariant-rows
invariant-rows l = record {
  same : (a : ℕ) → noted_under l.noted.items a ≡ noted_under l.fn.noted.items a;
  many : l._row ≤ length l.noted.items;
}
