use Rattle.std.proofs.Common.{◌≡◌, length}
use Rattle.proof_text.specs.Reading.{behind, moves_at}
use Rattle.proof_text.proofs.Splitting.{with_front_and}
use Rattle.proof_text.proofs.reading_lemmas.moves.Given as goal

abbrev pub invariant-words : goal.invariant-words
invariant-words l = with_front_and l.items.items (moves_at (behind 32 l.left)) ≡ moves_at (behind 32 l.rest)

abbrev pub decreases-words : goal.decreases-words
decreases-words l = length l.left
