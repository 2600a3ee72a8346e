use Rattle.std.proofs.Common.{ℕ, ◌<◌}
use Rattle.std.specs.Prelude.{Contains}
use Rattle.access_walk.specs.Maps.{IsWordOf}
use Rattle.access_walk.specs.Filled.{AreIndexTerms}
use Rattle.access_walk.proofs.filling.push_words.Given as goal

abbrev pub invariant-loop-number : goal.invariant-loop-number
invariant-loop-number l = record {
  words : AreIndexTerms l.terms.nodes l.bits l.indexes.items;
  kept : (j : ℕ) → Contains l.fn.indexes.items j → Contains l.indexes.items j;
  has : (k : ℕ) → k < l.number → (w : ℕ) × IsWordOf l.terms.nodes l.width k w × Contains l.indexes.items w;
}
