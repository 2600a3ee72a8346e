use Rattle.std.proofs.Common.{◌≡◌, ◌<◌, ℕ, Some, None}
use Rattle.std.specs.Prelude.{slice_get}
use Rattle.smt_terms.specs.Bits.{image_in}
use Rattle.access_walk.specs.Building.{IsEntered, HasTerm}
use Rattle.access_walk.proofs.network.Network.of_terms.Given as goal

abbrev pub invariant-loop-term : goal.invariant-loop-term
invariant-loop-term l = record {
  sound : IsEntered l.terms.nodes l.reached l.network;
  done : (j t : ℕ) → j < l.term-index → slice_get l.reached j ≡ Some t → image_in l.bits t ≡ None → HasTerm l.terms.nodes l.network t;
}
