use Rattle.std.proofs.Common.{◌^◌, arith}
use Rattle.proof_text.proofs.Splitting.{no_digit, too_great, digit_taken, digits_end}
use Rattle.proof_text.proofs.words.more_digits.Goals as goal

pub returns-then-not-is_digit : goal.returns-then-not-is_digit
returns-then-not-is_digit c = no_digit (2 ^ 64) c.loop-byte.n c.args.digits.now c.loop-byte.byte-index _ c.loop-byte-test.true (rw c.is_digit.ensures at c.if-not-is_digit.true) c.loop-byte.invariant

pub returns-then-n-digit : goal.returns-then-n-digit
returns-then-n-digit c = too_great (2 ^ 64) c.loop-byte.n c.args.digits.now c.loop-byte.byte-index _ c.loop-byte-test.true (rw c.is_digit.ensures at c.if-not-is_digit.false) (omega arith) c.loop-byte.invariant

pub loop-byte-preserved : goal.loop-byte-preserved
loop-byte-preserved c = digit_taken (2 ^ 64) c.loop-byte.n c.args.digits.now c.loop-byte.byte-index _ c.loop-byte-test.true (rw c.is_digit.ensures at c.if-not-is_digit.false) (omega arith) c.loop-byte.invariant

pub returns : goal.returns
returns c = digits_end (2 ^ 64) c.loop-byte.n c.args.digits.now c.loop-byte.byte-index _ c.loop-byte-test.false c.loop-byte.invariant
