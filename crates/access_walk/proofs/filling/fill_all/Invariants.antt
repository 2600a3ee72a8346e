use Rattle.std.proofs.Common.{◌≡◌, ℕ, ◌<◌, Some, None}
use Rattle.std.specs.Prelude.{slice_get}
use Rattle.smt_terms.specs.Bits.{image_in}
use Rattle.access_walk.specs.Building.{Grows}
use Rattle.access_walk.specs.Filled.{IsFilling, HasFillings}
use Rattle.access_walk.proofs.filling.fill_all.Given as goal

abbrev pub invariant-loop-term : goal.invariant-loop-term
invariant-loop-term l = record {
  filling : IsFilling l.terms.nodes l.bits l.reached l.indexes l.network;
  grows : Grows l.fn.network l.network;
  has : (p t : ℕ) → p < l.term-index → slice_get l.reached p ≡ Some t → image_in l.bits t ≡ None → HasFillings l.terms.nodes l.indexes l.network t;
}
