use Rattle.std.proofs.Common.{ap, ◌∙◌, ◌+◌, ◌*◌}
use Rattle.smt_build.proofs.Numerals.{read_wide}
use Rattle.smt_build.proofs.literal.width_of_numeral.Goals as goal

pub returns-then-value-gt128 : goal.returns-then-value-gt128
returns-then-value-gt128 c =
    read_wide _ _ _ _ _ c.loop-digit-test.true c.loop-digit.invariant (ap (λ x. 10 * c.loop-digit.value + x) (c.from.ensures ∙ c.decimal_value.ensures.value)) c.if-value-gt128.true
