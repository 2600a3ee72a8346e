use Rattle.smt_syntax.proofs.Fittings.{shape_fits}
use Rattle.smt_syntax.proofs.command.fits.Goals as goal

pub returns : goal.returns
returns c = λ e s. shape_fits _ _ _ _ e _ s c.want_of.ensures c.in_ok-found.ensures
