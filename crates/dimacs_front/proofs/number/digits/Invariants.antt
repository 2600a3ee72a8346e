use Rattle.std.proofs.Common.{◌≡◌, ◌≤◌, drop}
use Rattle.dimacs_front.specs.Words.{digits_from, number_limit}
use Rattle.dimacs_front.proofs.number.digits.Given as goal

abbrev pub invariant-loop-byte : goal.invariant-loop-byte
invariant-loop-byte l = record {
  bound : l.n ≤ number_limit;
  value : digits_from l.n (drop l.byte-index l.digits) ≡ digits_from l.fn.n l.digits;
}
