use Rattle.std.proofs.Common.{sym, ◌∙◌}
use Rattle.std.proofs.lemmas.List.{drop_all}
use Rattle.proof_text.specs.Reading.{digit_in}
use Rattle.proof_text.proofs.Splitting.{each_says, each_fails, each_ends, next_byte}
use Rattle.proof_text.proofs.reading_values.digits.Goals as goal

pub returns-in_default : goal.returns-in_default
returns-in_default c = each_fails digit_in c.loop-byte.items.items _ _ _ _ (next_byte c.args.bytes.now c.loop-byte.byte-index c.loop-byte-test.true) (sym c.digit.ensures ∙ c.in_default.is) c.loop-byte.invariant

pub loop-byte-preserved : goal.loop-byte-preserved
loop-byte-preserved c =
    rw c.in_ok-push.ensures.items
    (each_says digit_in c.loop-byte.items.items _ _ _ _ _ (next_byte c.args.bytes.now c.loop-byte.byte-index c.loop-byte-test.true) (sym c.digit.ensures ∙ c.in-Some.is) c.loop-byte.invariant)

pub returns : goal.returns
returns c = rw c.from_vec.ensures (each_ends digit_in c.loop-byte.items.items _ _ (drop_all c.loop-byte.byte-index c.args.bytes.now c.loop-byte-test.false) c.loop-byte.invariant)
