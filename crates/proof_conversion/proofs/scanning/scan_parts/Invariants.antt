use Rattle.std.proofs.Common.{length}
use Rattle.proof_conversion.proofs.Reading.{Progress}
use Rattle.proof_conversion.proofs.scanning.scan_parts.Given as goal

abbrev pub invariant-lines : goal.invariant-lines
invariant-lines l = Progress l.text l.reader l.scan l.number l.rest

abbrev pub decreases-lines : goal.decreases-lines
decreases-lines l = length l.reader.bytes
