use Rattle.smt_build.proofs.Numerals.{HasNumber}
use Rattle.smt_build.proofs.literal.number_of.Given as goal

abbrev pub invariant-loop-digit : goal.invariant-loop-digit
invariant-loop-digit l = HasNumber l.digits l.digit-index l.value
