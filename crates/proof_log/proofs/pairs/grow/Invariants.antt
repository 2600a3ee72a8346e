use Rattle.std.proofs.Common.{◌≡◌, ◌≤◌, length}
use Rattle.proof_log.specs.Pairs.{flat}
use Rattle.proof_log.proofs.pairs.grow.Given as goal

abbrev pub invariant-loop-row : goal.invariant-loop-row
invariant-loop-row g l = record {
  same : flat 0 l.rows.items ≡ flat 0 l.fn.rows.items;
  many : l._row ≤ length l.rows.items;
}
