use Rattle.std.proofs.Common.{◌≡◌, ◌<◌, ◌^◌, take}
use Rattle.proof_text.specs.Records.{binary}
use Rattle.proof_checker.proofs.written.number.Given as goal

abbrev pub invariant-loop-digit : goal.invariant-loop-digit
invariant-loop-digit l = (l.number < 2 ^ l.digit-index) × (binary l.digit-index l.number ≡ take l.digit-index l.digits)
