use Rattle.std.proofs.Common.{◌≡◌, length}
use Rattle.proof_text.specs.Reading.{behind, literals_at}
use Rattle.proof_text.proofs.Splitting.{with_front_and}
use Rattle.proof_text.proofs.reading.literals.Given as goal

abbrev pub invariant-words : goal.invariant-words
invariant-words l = with_front_and l.items.items (literals_at (behind 32 l.left)) ≡ literals_at (behind 32 l.rest)

abbrev pub decreases-words : goal.decreases-words
decreases-words l = length l.left
