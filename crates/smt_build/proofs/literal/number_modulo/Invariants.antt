use Rattle.std.proofs.Common.{◌<◌}
use Rattle.smt_build.proofs.Numerals.{HasRest}
use Rattle.smt_build.proofs.literal.number_modulo.Given as goal

abbrev pub invariant-loop-digit : goal.invariant-loop-digit
invariant-loop-digit l = HasRest l.digits l.width l.digit-index l.rest × (l.rest < l.width)
