use Rattle.std.proofs.Common.{arith, ◌∙◌}
use Rattle.dimacs_front.proofs.Splitting.{no_words, some_left, nothing_left, word_begins, word_goes_on, word_ends, word_ends_last}
use Rattle.dimacs_front.proofs.number.next_word.Goals as goal
use Rattle.dimacs_front.proofs.number.next_word.Goals.{then-loop-size-test+else-not-is_blank, else-loop-size-test}

pub returns-then-is_empty-clause-words : goal.returns-then-is_empty-clause-words
returns-then-is_empty-clause-words c = no_words c.args.line.now c.trimmed-rest.result.now (nothing_left c.trimmed-rest.result.now _ c.is_empty.ensures c.if-is_empty.true) c.trimmed-rest.ensures.words

pub loop-size-init : goal.loop-size-init
loop-size-init c =
    let h = some_left c.trimmed-rest.result.now _ c.is_empty.ensures c.if-is_empty.false in
    record { some = omega arith; within = h; words = word_begins c.trimmed-rest.result.now h (c.trimmed-rest.ensures.word h) }

pub loop-size-preserved : goal.loop-size-preserved
loop-size-preserved c = record {
  some = omega arith;
  within = omega arith;
  words = word_goes_on c.trimmed-rest.result.now c.loop-size.size c.loop-size.invariant.some c.loop-size-test.true (rw c.is_blank.ensures at c.if-not-is_blank.true) c.loop-size.invariant.words;
}

pub returns-clause-words : goal.returns-clause-words
returns-clause-words c =
    c.trimmed-rest.ensures.words ∙ rw (c.split_at.ensures.front, c.split_at.ensures.back)
    (elim c.loop-size-test.branch [
      | then-loop-size-test+else-not-is_blank w ↦ word_ends c.trimmed-rest.result.now c.loop-size.size c.loop-size.invariant.some w.loop-size-test.true (rw w.is_blank.ensures at w.if-not-is_blank.false) c.loop-size.invariant.words
      | else-loop-size-test w ↦ word_ends_last c.trimmed-rest.result.now c.loop-size.size c.loop-size.invariant.some c.loop-size.invariant.within w.loop-size-test.false c.loop-size.invariant.words
    ])
