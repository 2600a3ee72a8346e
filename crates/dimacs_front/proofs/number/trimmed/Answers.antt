use Rattle.std.proofs.Common.{arith, refl}
use Rattle.dimacs_front.proofs.Splitting.{blank_passed, first_left, none_left}
use Rattle.dimacs_front.proofs.number.trimmed.Goals as goal
use Rattle.dimacs_front.proofs.number.trimmed.Goals.{then-loop-size-test+else-is_blank, else-loop-size-test}

pub loop-size-init : goal.loop-size-init
loop-size-init c = record { within = omega arith; words = refl }

pub loop-size-preserved : goal.loop-size-preserved
loop-size-preserved c = record {
  within = omega arith;
  words = blank_passed c.args.line.now c.loop-size.size c.loop-size-test.true (rw c.is_blank.ensures at c.if-is_blank.true) c.loop-size.invariant.words;
}

pub returns-clause-words : goal.returns-clause-words
returns-clause-words c = rw c.split_at.ensures.back c.loop-size.invariant.words

pub returns-clause-word : goal.returns-clause-word
returns-clause-word c =
    rw c.split_at.ensures.back (λ h.
    elim c.loop-size-test.branch [
      | then-loop-size-test+else-is_blank w ↦ first_left c.args.line.now c.loop-size.size w.loop-size-test.true (rw w.is_blank.ensures at w.if-is_blank.false)
      | else-loop-size-test w ↦ absurd (none_left c.args.line.now c.loop-size.size w.loop-size-test.false h)
    ])
