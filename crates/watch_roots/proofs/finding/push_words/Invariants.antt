use Rattle.std.specs.Prelude.{All}
use Rattle.watch_roots.specs.Roots.{AreKept, IsScalar}
use Rattle.watch_roots.proofs.Found.{WordsSoFar}
use Rattle.watch_roots.proofs.finding.push_words.Given as goal

abbrev pub invariant-words : goal.invariant-words
invariant-words l = record {
  kept : AreKept l.fn.found.items l.found.items;
  words : WordsSoFar l.terms.nodes l.width l.found.items l.number;
  scalars : All (IsScalar l.terms.nodes) l.fn.found.items → All (IsScalar l.terms.nodes) l.found.items;
}
