use Rattle.std.proofs.Common.{◌≡◌, ℕ, List}
use Rattle.array_watches.specs.Needed.{with_index_words}
use Rattle.array_watches.specs.Making.{AreSame, Extends}
use Rattle.array_watches.proofs.watches.make_index_words.Given as goal

abbrev pub invariant-loop-below : goal.invariant-loop-below
invariant-loop-below l = record {
  words : (ts : List ℕ) → AreSame ts l.among → l.terms.nodes ≡ with_index_words l.fn.terms.nodes ts l.below;
  grown : Extends l.fn.terms l.terms;
}
