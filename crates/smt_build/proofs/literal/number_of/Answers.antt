use Rattle.std.proofs.Common.{arith, ◌∙◌}
use Rattle.smt_build.proofs.Numerals.{number_great, past_tenth}
use Rattle.smt_build.proofs.literal.number_of.Goals as goal

pub returns-then-value-digit : goal.returns-then-value-digit
returns-then-value-digit c =
    number_great _ _ _ _ _ c.loop-digit-test.true c.loop-digit.invariant (c.from-digit.ensures ∙ c.decimal_value.ensures.value) (past_tenth _ _ _ (omega (arith, c.from-digit.ensures, c.decimal_value.ensures.below)) c.if-value-digit.true)
