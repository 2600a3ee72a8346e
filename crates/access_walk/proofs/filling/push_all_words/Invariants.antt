use Rattle.std.proofs.Common.{◌≡◌, ℕ, ◌<◌, ◌≤◌, Some}
use Rattle.std.specs.Prelude.{slice_get, Contains}
use Rattle.access_walk.specs.Maps.{IsWordOf}
use Rattle.access_walk.specs.Walked.{IsHeldWord}
use Rattle.access_walk.specs.Filled.{AreIndexTerms}
use Rattle.access_walk.proofs.filling.push_all_words.Given as goal

abbrev pub invariant-loop-width : goal.invariant-loop-width
invariant-loop-width l = record {
  words : AreIndexTerms l.terms.nodes l.bits l.indexes.items;
  kept : (j : ℕ) → Contains l.fn.indexes.items j → Contains l.indexes.items j;
  has : (p n k : ℕ) → p < l.width-index → slice_get l.widths p ≡ Some n → k < l.count → ((i : ℕ) → i ≤ k → IsHeldWord l.terms.nodes l.bits n i) → (w : ℕ) × IsWordOf l.terms.nodes n k w × Contains l.indexes.items w;
}
