use Rattle.std.proofs.Common.{arith}
use Rattle.dimacs_front.proofs.Splitting.{no_digit, digit_taken, digits_end}
use Rattle.dimacs_front.proofs.number.digits.Goals as goal

pub returns-then-not-is_digit-clause-value : goal.returns-then-not-is_digit-clause-value
returns-then-not-is_digit-clause-value c = no_digit c.loop-byte.n c.args.digits.now c.loop-byte.byte-index _ c.loop-byte-test.true (rw c.is_digit.ensures at c.if-not-is_digit.true) c.loop-byte.invariant.value

pub loop-byte-preserved : goal.loop-byte-preserved
loop-byte-preserved c = record {
  bound = omega arith;
  value = digit_taken c.loop-byte.n c.min-n.result c.args.digits.now c.loop-byte.byte-index _ c.loop-byte-test.true (rw c.is_digit.ensures at c.if-not-is_digit.false) (omega arith) c.loop-byte.invariant.value;
}

pub returns-clause-value : goal.returns-clause-value
returns-clause-value c = digits_end c.loop-byte.n c.args.digits.now c.loop-byte.byte-index _ c.loop-byte-test.false c.loop-byte.invariant.value
