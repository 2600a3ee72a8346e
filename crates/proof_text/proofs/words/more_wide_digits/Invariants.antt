use Rattle.std.proofs.Common.{◌≡◌, ◌^◌, drop}
use Rattle.proof_text.specs.Reading.{more_digits}
use Rattle.proof_text.proofs.words.more_wide_digits.Given as goal

abbrev pub invariant-loop-byte : goal.invariant-loop-byte
invariant-loop-byte l = more_digits (2 ^ 128) l.n (drop l.byte-index l.digits) ≡ more_digits (2 ^ 128) l.fn.n l.digits
