use Rattle.std.proofs.Common.{◌≡◌, ◌+◌, length, take, None}
use Rattle.std.specs.List.{flat_map}
use Rattle.smt_text.specs.Framing.{first_chunk}
use Rattle.smt_text.proofs.Driver.{Framed}
use Rattle.smt_text.proofs.framer.chunks.Given as goal

abbrev pub invariant-pieces : goal.invariant-pieces
invariant-pieces l = Framed (flat_map (λ p. p) (take l.piece-index l.pieces)) l.framer l.out.items × (first_chunk l.framer ≡ None)

abbrev pub invariant-whole : goal.invariant-whole
invariant-whole l = Framed (flat_map (λ p. p) (take (l.piece-index + 1) l.pieces)) l.framer l.out.items

abbrev pub decreases-whole : goal.decreases-whole
decreases-whole l = length l.framer.bytes
