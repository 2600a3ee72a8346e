use Rattle.smt_build.proofs.Numerals.{HasRead}
use Rattle.smt_build.proofs.literal.width_of_numeral.Given as goal

abbrev pub invariant-loop-digit : goal.invariant-loop-digit
invariant-loop-digit l = HasRead l.digits l.digit-index l.value
