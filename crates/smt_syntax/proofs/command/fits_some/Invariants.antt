use Rattle.smt_syntax.specs.Sexps.{signs_in}
use Rattle.smt_syntax.proofs.Fittings.{Trying}
use Rattle.smt_syntax.proofs.command.fits_some.Given as goal

abbrev pub invariant-loop-row : goal.invariant-loop-row
invariant-loop-row l = Trying (signs_in l.tokens) l.rows l.spans l.row-index
