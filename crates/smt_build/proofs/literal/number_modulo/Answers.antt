use Rattle.std.proofs.Common.{refl, arith, ◌∙◌}
use Rattle.std.proofs.lemmas.Nat.{mod_below}
use Rattle.smt_build.proofs.Numerals.{rest_more}
use Rattle.smt_build.proofs.literal.number_modulo.Goals as goal

pub loop-digit-preserved : goal.loop-digit-preserved
loop-digit-preserved c =
    (rest_more _ _ _ _ _ _ _ c.loop-digit-test.true c.loop-digit.invariant.0 (c.from.ensures ∙ c.decimal_value.ensures.value) refl, mod_below _ _ (omega (arith, c.from-width.ensures, c.requires)))
