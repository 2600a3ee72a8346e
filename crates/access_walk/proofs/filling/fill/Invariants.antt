use Rattle.std.proofs.Common.{◌≡◌, ℕ, ◌<◌, Some}
use Rattle.std.specs.Prelude.{slice_get, Contains}
use Rattle.theory_terms.specs.declared.atom.Landing.{Landing}
use Rattle.theory_terms.specs.declared.lemma.Start.TheVariants.{Const}
use Rattle.theory_terms.specs.Lemmas.{landing_of}
use Rattle.access_walk.specs.Building.{Grows}
use Rattle.access_walk.specs.Filled.{IsFilling}
use Rattle.access_walk.proofs.filling.fill.Given as goal

abbrev pub invariant-loop-index : goal.invariant-loop-index
invariant-loop-index l = record {
  filling : IsFilling l.terms.nodes l.bits l.reached l.indexes l.network;
  grows : Grows l.fn.network l.network;
  has : (p j : ℕ) (r : Landing) → p < l.index-index → slice_get l.indexes p ≡ Some j → landing_of l.terms.nodes (Const l.term j) ≡ Some r → Contains l.network.landings.items r;
}
