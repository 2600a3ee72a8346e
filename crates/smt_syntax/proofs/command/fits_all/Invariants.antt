use Rattle.smt_syntax.specs.Sexps.{signs_in}
use Rattle.smt_syntax.proofs.Fittings.{Fitting}
use Rattle.smt_syntax.proofs.command.fits_all.Given as goal

abbrev pub invariant-loop-i : goal.invariant-loop-i
invariant-loop-i l = Fitting (signs_in l.tokens) l.forms l.spans l.i
