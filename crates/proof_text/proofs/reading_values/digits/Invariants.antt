use Rattle.std.proofs.Common.{◌≡◌, drop}
use Rattle.proof_text.specs.Reading.{digits_of}
use Rattle.proof_text.proofs.Splitting.{with_front}
use Rattle.proof_text.proofs.reading_values.digits.Given as goal

abbrev pub invariant-loop-byte : goal.invariant-loop-byte
invariant-loop-byte l = with_front l.items.items (digits_of (drop l.byte-index l.bytes)) ≡ digits_of l.bytes
