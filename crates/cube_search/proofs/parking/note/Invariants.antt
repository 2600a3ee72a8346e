use Rattle.std.proofs.Common.{ℕ, ◌+◌, take}
use Rattle.std.specs.Prelude.{Contains}
use Rattle.cube_search.proofs.parking.note.Given as goal

abbrev pub invariant-positions : goal.invariant-positions
invariant-positions l = record {
  has : (p : ℕ) → Contains (take l.pos-index l.positions) p → Contains l.needed (p + 1);
  only : (p : ℕ) → Contains l.needed (p + 1) → Contains (take l.pos-index l.positions) p;
}
