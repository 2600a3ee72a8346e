use Rattle.std.proofs.Common.{◌≡◌, ◌+◌, true, length, take}
use Rattle.std.specs.List.{flat_map}
use Rattle.proof_text.specs.Held.{without_feed}
use Rattle.proof_text.proofs.Running.{Read}
use Rattle.proof_text.proofs.file.lines.Given as goal

abbrev pub invariant-pieces : goal.invariant-pieces
invariant-pieces l = record {
  given : Read (flat_map (λ p. p) (take l.piece-index l.pieces)) l.reader l.out.items;
  none_whole : without_feed l.reader.bytes ≡ true;
}

abbrev pub invariant-whole : goal.invariant-whole
invariant-whole l = Read (flat_map (λ p. p) (take (l.piece-index + 1) l.pieces)) l.reader l.out.items

abbrev pub decreases-whole : goal.decreases-whole
decreases-whole l = length l.reader.bytes
