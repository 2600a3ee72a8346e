use Rattle.std.proofs.Common.{arith}
use Rattle.proof_text.proofs.Splitting.{word_begins, word_goes_on, word_ends, word_ends_last}
use Rattle.proof_text.proofs.words.split_word.Goals as goal
use Rattle.proof_text.proofs.words.split_word.Goals.{then-loop-size-test+else-bytes-size, else-loop-size-test}

pub loop-size-init : goal.loop-size-init
loop-size-init c = record { within = omega arith; words = word_begins c.args.mark c.args.bytes.now }

pub loop-size-preserved : goal.loop-size-preserved
loop-size-preserved c = record {
  within = omega arith;
  words = word_goes_on c.args.mark c.args.bytes.now c.loop-size.size (omega arith) c.if-bytes-size.true c.loop-size.invariant.words;
}

pub returns-clause-words : goal.returns-clause-words
returns-clause-words c =
    rw (c.split_at.ensures.front, c.split_at.ensures.back)
    (elim c.loop-size-test.branch [
      | then-loop-size-test+else-bytes-size w ↦ word_ends c.args.mark c.args.bytes.now c.loop-size.size w.loop-size-test.true w.if-bytes-size.false c.loop-size.invariant.words
      | else-loop-size-test w ↦ word_ends_last c.args.mark c.args.bytes.now c.loop-size.size w.loop-size-test.false c.loop-size.invariant.words
    ])
