use Rattle.std.proofs.Common.{◌≡◌, length}
use Rattle.proof_text.specs.Reading.{behind, scalars_of}
use Rattle.proof_text.proofs.Splitting.{with_front}
use Rattle.proof_text.proofs.reading_values.scalars.Given as goal

abbrev pub invariant-words : goal.invariant-words
invariant-words l = with_front l.items.items (scalars_of (behind 32 l.left)) ≡ scalars_of (behind 32 l.rest)

abbrev pub decreases-words : goal.decreases-words
decreases-words l = length l.left
